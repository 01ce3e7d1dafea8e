-- The number of pieces visited depends on a sheet only through the word's own questions: `visits_alike`. Assumes nothing.
use Prim.Native.Nat.{ℕ, zero, suc, ◌+◌, ◌<◌}
use native.Mathlib.Omega.{arith}
use mathlib.Core.Path.{◌≡◌, refl, sym, ap, ap₂, ◌∙◌, subst}
use mathlib.Core.Bool.{Bool, true}
use mathlib.Core.List.{List, [], ◌∷◌}
use lib.ListN.{length, get_or}
use Rattle.runs.specs.Runs.{pick}
use Rattle.text.specs.Utf8.{is_utf8}
use Rattle.tables.specs.Rows.{prefix_forms}
use Rattle.tables.specs.Tables.{affixes}
use Rattle.tables.proofs.Facts.{prefix_form_count, affix_plural, affix_case, affix_particle}
use Rattle.strips.specs.Suffix.{plain, shared, remainders}
use Rattle.strips.specs.Prefix.{prefix_remainder}
use Rattle.sheet.specs.Replies.{Ask, reply, Alike}
use Rattle.paths.specs.Chains.{all_rows, form_of}
use Rattle.paths.specs.Questions.{Part, Own}
use Rattle.paths.specs.Visits.{total, prefix_visits, Group, support_groups, entry, suffix_visits, visits_of}
use Rattle.paths.proofs.Routes.{plainly, sharing}
use Rattle.paths.proofs.Members.{prefix_few, left-few}
use Rattle.paths.proofs.Own.{whole_part}
use Rattle.paths.proofs.Agreed.{progressive_same}
use Rattle.paths.proofs.Alike.{prefix_part, left-part}
use Rattle.paths.proofs.Totals.{total-append, total-rows, total_left}
use Rattle.paths.proofs.Few.{plural_count, case_count, particle_count}

-- each text of the group is one of the 25
abbrev Among : Group → Type 0
Among g = (k : ℕ) → k < length g.items → (row : ℕ) × (row < all_rows) × (get_or affixes row [] ≡ get_or g.items k [])

abbrev AllAmong : List Group → Type 0
AllAmong [] = Unit {0}
AllAmong (g ∷ gs) = Among g × AllAmong gs

groups_among : AllAmong support_groups
groups_among = (
  (λ k h. (18 + k, omega (arith, particle_count), affix_particle k)),
  (
    (λ k h. (2 + k, omega (arith, case_count), affix_case k (omega (arith, case_count)))),
    (
      (λ k h. (k, omega (arith, plural_count), affix_plural k (omega (arith, plural_count)))),
      tt,
    ),
  ),
)

module _ (ask ask' : Ask) (w : List ℕ) (agree : (letter : ℕ) (name : List ℕ) → Own ask w letter name → ask letter name ≡ ask' letter name) where
  prefix_same : (depth : ℕ) (piece : List ℕ) → Part w piece → prefix_visits depth ask piece ≡ prefix_visits depth ask' piece
  unfolding prefix_visits
  prefix_same zero piece t = refl
  prefix_same (suc depth) piece t =
      ap₂ (λ (b : Bool) (n : ℕ). 1 + pick b 0 n) (progressive_same ask ask' w agree piece t)
      (total-rows _ _ prefix_forms (λ k h. total_left (prefix_visits depth ask) (prefix_visits depth ask') (prefix_remainder piece (form_of k)) (prefix_few piece (form_of k))
      (λ left q. prefix_same depth left (prefix_part w piece k left (omega (arith, prefix_form_count)) t q))))

  entry_same : (piece : List ℕ) → Part w piece → entry ask piece ≡ entry ask' piece
  unfolding entry
  entry_same piece t = ap (λ (n : ℕ). 1 + n) (prefix_same 2 piece t)

  -- what is counted for the remainders under one of the 25 texts
  text_same : (f g : List ℕ → ℕ) → ((left : List ℕ) → Part w left → f left ≡ g left) → (piece : List ℕ) → Part w piece → (row : ℕ) → row < all_rows
      → total f (remainders piece (get_or affixes row [])) ≡ total g (remainders piece (get_or affixes row []))
  unfolding remainders
  text_same f g e piece t row h =
      let text = get_or affixes row [] in
      total-append f (plain piece text) (shared piece text)
      ∙ ap₂ (λ (m n : ℕ). m + n)
      (total_left f g (plain piece text) (left-few piece (plainly row)) (λ left q. e left (left-part w piece (plainly row) left h t q)))
      (total_left f g (shared piece text) (left-few piece (sharing row)) (λ left q. e left (left-part w piece (sharing row) left h t q)))
      ∙ sym (total-append g (plain piece text) (shared piece text))

  group_same : (f g : List ℕ → ℕ) → ((left : List ℕ) → Part w left → f left ≡ g left) → (piece : List ℕ) → Part w piece → (x : Group) → Among x
      → total (λ text. total f (remainders piece text)) x.items ≡ total (λ text. total g (remainders piece text)) x.items
  group_same f g e piece t x a = total-rows _ _ x.items (λ k h.
      let r = a k h in
      subst (λ (text : List ℕ). total f (remainders piece text) ≡ total g (remainders piece text)) r.2 (text_same f g e piece t r.0 r.1))

  suffix_same : (d : ℕ) (gs : List Group) → AllAmong gs → (piece : List ℕ) → Part w piece → suffix_visits d ask gs piece ≡ suffix_visits d ask' gs piece
  unfolding suffix_visits
  suffix_same d [] a piece t = entry_same piece t
  suffix_same zero (g ∷ gs) a piece t = entry_same piece t
  suffix_same (suc d) (g ∷ gs) a piece t =
      ap₂ (λ (m n : ℕ). m + n) (entry_same piece t)
      (ap₂ (λ (b : Bool) (n : ℕ). pick b 0 n) (progressive_same ask ask' w agree piece t)
      (ap₂ (λ (m n : ℕ). m + n) (suffix_same (suc d) gs a.1 piece t)
      (group_same _ _ (λ left s. ap₂ (λ (m n : ℕ). pick g.repeatable m 0 + n) (suffix_same d (g ∷ gs) a left s) (suffix_same d gs a.1 left s)) piece t g a.0)))

  pub visits_same : is_utf8 w ≡ true → visits_of ask w ≡ visits_of ask' w
  unfolding visits_of
  visits_same u = by w (suffix_same 4 support_groups groups_among w (whole_part w u))
    where
      by : (v : List ℕ) → suffix_visits 4 ask support_groups v ≡ suffix_visits 4 ask' support_groups v → visits_of ask v ≡ visits_of ask' v
      by [] e = refl
      by (b ∷ v) e = e

-- so do two sheets that reply alike to them
pub visits_alike : (s t w : List ℕ) → is_utf8 w ≡ true → ((letter : ℕ) (name : List ℕ) → Own (reply s) w letter name → Alike s t letter name)
    → visits_of (reply s) w ≡ visits_of (reply t) w
unfolding Alike
visits_alike s t w u agree = visits_same (reply s) (reply t) w agree u
