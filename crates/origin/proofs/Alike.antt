-- Two sheets that reply alike, letters for letters, to the word and to its remainders give one decision. Those are runs of the word's
-- whole characters, so the word's own questions are all that a decision asks. Assumes nothing.
use mathlib.Core.Path.{◌≡◌, refl, ap, ◌∙◌}
use mathlib.Core.List.{List, [], ◌∷◌, Memᴰ}
use Prim.Native.Nat.{ℕ}
use lib.Dec.{ltb}
use Rattle.runs.specs.Runs.{pick}
use Rattle.text.specs.Characters.{chars}
use Rattle.tables.specs.Rows.{strip_suffixes}
use Rattle.sheet.specs.Replies.{Ask, Reply, letters_told}
use Rattle.strips.specs.Suffix.{remainders}
use Rattle.std.specs.Option.{option_or}
use Rattle.std.specs.Prelude.{Option, None}
use Rattle.origin.specs.Decisions.{known_in, known_by, first_known, known_rest, known_under, known_stem, decision_of}
use Rattle.origin.specs.declared.kosha.Known.{Known}

first_alike : (f g : List ℕ → Option Known) (ts : List (List ℕ)) → ((t : List ℕ) → Memᴰ t ts → f t ≡ g t) → first_known f ts ≡ first_known g ts
first_alike f g [] h = refl
first_alike f g (t ∷ ts) h =
    ap (λ (k : Option Known). option_or k (first_known f ts)) (h t (Memᴰ.head refl))
    ∙ ap (option_or (g t)) (first_alike f g ts (λ u m. h u (Memᴰ.tail m)))

module _ (a b : Ask) where
  known_alike : (name : List ℕ) → a 0x77 name ≡ b 0x77 name → known_by a name ≡ known_by b name
  unfolding known_by
  known_alike name e = ap (λ (r : Reply). known_in (letters_told r)) e

  rest_alike : (r : List ℕ) → a 0x77 r ≡ b 0x77 r → known_rest a r ≡ known_rest b r
  unfolding known_rest
  rest_alike r e = ap (λ (k : Option Known). pick (ltb 1 (chars r)) k None) (known_alike r e)

  pub decision_alike : (w : List ℕ) → a 0x77 w ≡ b 0x77 w
      → ((suffix r : List ℕ) → Memᴰ suffix strip_suffixes → Memᴰ r (remainders w suffix) → a 0x77 r ≡ b 0x77 r)
      → decision_of a w ≡ decision_of b w
  unfolding decision_of known_stem known_under
  decision_alike w e h =
      rw (
        known_alike w e,
        first_alike (known_under a w) (known_under b w) strip_suffixes
            (λ suffix m. first_alike (known_rest a) (known_rest b) (remainders w suffix) (λ r n. rest_alike r (h suffix r m n))),
      )
