-- `rows::bits_of` meets its contract: what is none has the bits told. Assumes nothing.
use mathlib.Core.Path.{◌≡◌, refl, sym, subst, ◌∙◌}
use mathlib.Core.Bool.{Bool, true, not}
use lib.Dec.{T}
use lib.Ieee.{Float, nan, inf, fin, is_nan, binary32, to_bits}
use Rattle.exports.proofs.rows.bits_of.Goals as goal

no_number : (x : Float) → is_nan x ≡ true → 0x7FC00000 ≡ to_bits binary32 x
unfolding is_nan to_bits
no_number nan e = refl
no_number (inf s) e = cc
no_number (fin s m k) e = cc

pub returns-then-is_nan : goal.returns-then-is_nan
returns-then-is_nan c = no_number c.args.x (sym c.is_nan.ensures.value ∙ c.if-is_nan.true)

pub float_to_bits-result : goal.float_to_bits-result
float_to_bits-result c = subst (λ (b : Bool). T (not b)) (sym c.if-is_nan.false ∙ c.is_nan.ensures.value) tt
