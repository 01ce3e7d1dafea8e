-- `exports::form_code` meets its contract, by the sign of the form. Assumes nothing.
use Prim.Native.Nat.{ℕ, ◌+◌, ◌*◌}
use native.Mathlib.Omega.{arith}
use mathlib.Core.Path.{◌≡◌, refl}
use mathlib.Core.Bool.{Bool, true, false}
use Rattle.std.specs.Prelude.{Some}
use Rattle.progressive.specs.declared.find.Progressive.{Progressive}
use Rattle.exports.specs.Codes.{answered, bit, form_value}
use Rattle.exports.proofs.form_code.Goals as goal

-- the value of a form, by its sign
form-value : (f : Progressive) (b : Bool) (k : ℕ) → f.negative ≡ b → k ≡ 1 + 2 * bit b →
    256 * (k + (4 * f.main_end + 1024 * f.lemma_len + 262144 * f.lemma_at)) ≡ answered (form_value (Some f))
form-value f b k n h = rw n (omega arith)

pub returns-then-form : goal.returns-then-form
returns-then-form c = form-value c.args.form true 3 c.if-form.true refl

pub returns : goal.returns
returns c = form-value c.args.form false 1 c.if-form.false refl
