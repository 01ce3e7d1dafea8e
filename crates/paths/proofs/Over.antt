-- When a word's readings are too many: the list is over just where 65 different readings exist (`over_means`), and else it holds
-- all of them (`listed_means`), in the order that Ranked says. Cited for the bound of the core call. Assumes nothing.
use Prim.Native.Nat.{ℕ, ◌≤◌}
use native.Mathlib.Omega.{arith}
use mathlib.Core.Path.{◌≡◌, sym, ap, ◌∙◌, subst}
use mathlib.Core.Logic.{◌↔◌}
use mathlib.Core.List.{List, [], map, Memᴰ}
use lib.ListN.{length, length-map}
use Rattle.text.specs.Characters.{chars}
use Rattle.tables.proofs.Compared.{by_order}
use Rattle.sheet.specs.Replies.{Ask}
use Rattle.ranking.specs.Lists.{Rows, rows, over, plus_all}
use Rattle.ranking.specs.declared.Reading.{Reading}
use Rattle.paths.specs.Readings.{Parts, parts_of, IsReading, reading_of}
use Rattle.paths.specs.Walk.{word_walk}
use Rattle.paths.proofs.Routes.{routes}
use Rattle.paths.proofs.Walked.{word_is}
use Rattle.paths.proofs.Members.{in_map, of_map}
use Rattle.paths.proofs.Sound.{sound}
use Rattle.paths.proofs.Complete.{complete}
use Rattle.paths.proofs.Ascending.{readings_distinct}
use Rattle.paths.proofs.Bounded.{ranked_all, few_stay, many_over}
use Rattle.paths.specs.Counted.{AtLeast}
use Rattle.paths.proofs.Pigeon.{pigeon}

is_over : Rows → ℕ
is_over (rows xs) = 0
is_over over = 1

rows_apart : {P : Type 0} (xs : List Reading) → rows xs ≡ over → P
unfolding is_over
rows_apart xs e = let z : ◌≡◌ {A = ℕ} 0 1 = ap is_over e in absurd (omega arith)

module _ (ask : Ask) (w : List ℕ) where
  -- the readings of a word are those of its paths
  pub reading_found : (r : Parts) → IsReading ask w r → Memᴰ r (map parts_of (routes ask w))
  reading_found r t = subst (λ (q : Parts). Memᴰ q (map parts_of (routes ask w))) t.2 (in_map parts_of (complete ask w t.0 t.1))

  pub found_reading : (r : Parts) → Memᴰ r (map parts_of (routes ask w)) → IsReading ask w r
  found_reading r m = let t = of_map parts_of (routes ask w) m in (t.0, sound ask w t.0 t.1, sym t.2)

  -- n readings are found just where n different readings exist
  pub readings-counted : (n : ℕ) → (n ≤ length (routes ask w)) ↔ AtLeast n (IsReading ask w)
  readings-counted n =
      subst (λ (k : ℕ). (n ≤ k) ↔ AtLeast n (IsReading ask w)) (length-map (routes ask w) parts_of)
      (pigeon (IsReading ask w) (map parts_of (routes ask w)) (readings_distinct ask w) found_reading reading_found n)

  walk_length : length (word_walk ask (chars w) w) ≡ length (routes ask w)
  walk_length = ap length (word_is ask w) ∙ length-map (routes ask w) (reading_of ask w)

  -- the list is over just where 65 different readings exist
  pub over_means : (plus_all w (rows []) (word_walk ask (chars w) w) ≡ over) ↔ AtLeast 65 (IsReading ask w)
  over_means = (
    (λ o.
        by_order 64 (length (routes ask w)) (readings-counted 65).0
        (λ h.
        let n = walk_length in
        rows_apart (ranked_all w (word_walk ask (chars w) w)) (sym (few_stay w (word_walk ask (chars w) w) (omega arith)) ∙ o))),
    (λ t.
        let h : 65 ≤ length (routes ask w) = (readings-counted 65).1 t in
        let n = walk_length in
        many_over w (word_walk ask (chars w) w) (omega arith)),
  )

  -- where there are not 65, all are listed
  pub listed_means : (AtLeast 65 (IsReading ask w) → ⊥) → plus_all w (rows []) (word_walk ask (chars w) w) ≡ rows (ranked_all w (word_walk ask (chars w) w))
  listed_means no65 =
      by_order 64 (length (routes ask w)) (λ h. absurd (no65 ((readings-counted 65).0 h)))
      (λ h. let e = walk_length in few_stay w (word_walk ask (chars w) w) (omega arith))
