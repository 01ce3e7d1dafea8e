-- What is wrong with one line, test by test. The proofs of faults.rt cite these. Assumes nothing.
use Rattle.std.specs.Prelude.{Option, Some, None}
use Prim.Native.Nat.{ℕ, ◌+◌, ◌-◌, ◌≤◌, ◌<◌}
use native.Mathlib.Omega.{arith}
use mathlib.Core.Path.{◌≡◌, refl, sym, ap, ap₂, ◌∙◌}
use mathlib.Core.Bool.{Bool, true, ◌||◌}
use mathlib.Core.List.{List, [], ◌∷◌, ◌++◌, append-nil}
use lib.ListN.{length, take, drop, get_or}
use borrow.Author.Tests.{eq-eqb, ne_eqb}
use Rattle.std.proofs.Common.{Bor, map}
use Rattle.std.specs.List.{list_any}
use Rattle.std.specs.Ordering.{is_eq}
use Rattle.std.specs.declared.cmp.Ordering.TheVariants.{Less, Equal, Greater}
use Rattle.runs.specs.Runs.{pick, cmp}
use Rattle.std.specs.declared.cmp.Ordering.{Ordering}
use Rattle.runs.proofs.Ordered.{is_equal, same_cmp}
use Rattle.tables.specs.Tables.{affixes}
use Rattle.sheet.specs.Letters.{letters_of}
use Rattle.sheet.specs.Forms.{is_form, key, key_of}
use Rattle.sheet.specs.Lines.{line_at}
use Rattle.sheet.specs.Replies.{reply}
use Rattle.sheet.specs.declared.letters.Letters.{Letters}
use Rattle.sheet.specs.declared.form.FormAt.{FormAt}
use Rattle.lookup.specs.Answers.{ValueOf}
use Rattle.lookup.specs.declared.answers.Spot.{Spot}
use Rattle.lookup.proofs.Parts.{read}
use Rattle.referred.specs.declared.Fault.{Fault}
use Rattle.referred.specs.declared.Fault.TheVariants.{NotVerb, Unused}
use Rattle.referred.specs.Report.{verb_fault, is_text, fault_of, fault_at}

-- a line compared with the question for each text tells whether it names one
pub text_any : (x : List ℕ) (rows : List (Bor (List ℕ))) → list_any (λ (t : Bor (List ℕ)). is_eq (cmp x (key_of 0x6B (t.now ++ [])))) rows ≡ is_text x (map (λ (t : Bor (List ℕ)). t.now) rows)
unfolding is_text
text_any x [] = refl
text_any x (t ∷ rows) =
    ap₂ (λ (a b : Bool). a || b)
    (ap (λ (y : List ℕ). is_eq (cmp x (key_of 0x6B y))) (append-nil t.now) ∙ equal_is (cmp x (key_of 0x6B t.now)) ∙ sym (same_cmp x (key_of 0x6B t.now)))
    (text_any x rows)
  where
    equal_is : (o : Ordering) → is_eq o ≡ is_equal o
    equal_is Less = refl
    equal_is Equal = refl
    equal_is Greater = refl

-- the verb that was found has v, or not
pub verb_read : (s name : List ℕ) (r : Option Spot) → ValueOf s 0x77 name r → (v : Spot) → r ≡ Some v → (l : Letters) (b : Bool)
    → l ≡ letters_of (take (v.at + v.len - v.at) (drop v.at s)) → l.verb ≡ b → pick b None (Some NotVerb) ≡ verb_fault (reply s 0x77 name)
verb_read s name r k v f l b e g =
    ap (λ (x : Bool). pick x None (Some NotVerb)) (sym g ∙ ap (λ (x : Letters). x.verb) e) ∙ ap verb_fault (read s 0x77 name r k v f)

-- by the line's letter
module _ (s : List ℕ) (l : FormAt) (q : l.sheet.now ≡ s) (n : ℕ) (e : n ≡ (line_at l.sheet.now l.at).letter) where
  letter : (line_at s l.at).letter ≡ n
  letter = ap (λ (x : List ℕ). (line_at x l.at).letter) (sym q) ∙ sym e

  pub link-fault : n ≡ 0x6C → (v : List ℕ) → v ≡ (line_at l.sheet.now l.at).value → (f : Option Fault) → f ≡ verb_fault (reply s 0x77 v) → f ≡ fault_at s l.at
  unfolding fault_of
  link-fault m v w f g =
      g ∙ ap (λ (x : List ℕ). verb_fault (reply s 0x77 x)) (w ∙ ap (λ (x : List ℕ). (line_at x l.at).value) q)
      ∙ sym (rw (eq-eqb (line_at s l.at).letter 0x6C (letter ∙ m)))

  pub kind-fault : n ≡ 0x6B → (b c : Bool) → b ≡ is_text (key (line_at l.sheet.now l.at)) affixes → b ≡ c → pick c None (Some Unused) ≡ fault_at s l.at
  unfolding fault_of
  kind-fault m b c g h =
      ap (λ (x : Bool). pick x None (Some Unused)) (sym h ∙ g ∙ ap (λ (x : List ℕ). is_text (key (line_at x l.at)) affixes) q)
      ∙ sym (rw (ne_eqb (line_at s l.at).letter 0x6C (λ z. omega (arith, letter, m, z)), eq-eqb (line_at s l.at).letter 0x6B (letter ∙ m)))

  pub no-fault : (n ≡ 0x6C → ⊥) → (n ≡ 0x6B → ⊥) → None ≡ fault_at s l.at
  unfolding fault_of
  no-fault a b =
      sym (rw (ne_eqb (line_at s l.at).letter 0x6C (λ z. a (sym letter ∙ z)), ne_eqb (line_at s l.at).letter 0x6B (λ z. b (sym letter ∙ z))))
