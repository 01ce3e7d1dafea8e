-- `sheet::letters::tag_at` meets its contract: by the letter that stands there. Assumes nothing.
use Rattle.std.proofs.Common.{◌≡◌, ℕ, get_or, None, Option, arith}
use mathlib.Core.Path.{refl, ◌∙◌}
use borrow.Author.Tests.{ne_eqb}
use Rattle.tables.specs.declared.origins.Origin.{Origin}
use Rattle.sheet.proofs.Places.{tag_by, tag_here, tag_end}
use Rattle.sheet.proofs.letters.tag_at.Goals as goal

pub returns-then-v-i : goal.returns-then-v-i
returns-then-v-i c = tag_end _ _ c.if-v-i.true

pub returns-in-116 : goal.returns-in-116
returns-in-116 c = tag_here _ _ 0x74 c.if-v-i.false c.in-116.is

pub returns-in-98 : goal.returns-in-98
returns-in-98 c = tag_here _ _ 0x62 c.if-v-i.false c.in-98.is

pub returns-in-100 : goal.returns-in-100
returns-in-100 c = tag_here _ _ 0x64 c.if-v-i.false c.in-100.is

pub returns-in-97 : goal.returns-in-97
returns-in-97 c = tag_here _ _ 0x61 c.if-v-i.false c.in-97.is

-- a letter that is none of the four is no tag
other : (b : ℕ) → (b ≡ 0x74 → ⊥) → (b ≡ 0x62 → ⊥) → (b ≡ 0x64 → ⊥) → (b ≡ 0x61 → ⊥) → ◌≡◌ {A = Option Origin} None (tag_by b)
other b p q r s = rw (ne_eqb 0x74 b (λ e. p (omega arith)), ne_eqb 0x62 b (λ e. q (omega arith)), ne_eqb 0x64 b (λ e. r (omega arith)), ne_eqb 0x61 b (λ e. s (omega arith)))

pub returns-in_default : goal.returns-in_default
returns-in_default c = other (get_or c.args.v.now c.args.i 0) (λ e. omega arith) (λ e. omega arith) (λ e. omega arith) (λ e. omega arith) ∙ tag_here c.args.v.now c.args.i _ c.if-v-i.false refl
