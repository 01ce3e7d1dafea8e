-- Laws of the way through the suffix rows: one row more, all rows. The proofs of `strip_row`, `strip_rows` and
-- `decomposed` cite these. Assumes nothing.
use Rattle.std.specs.Prelude.{None, Some}
use mathlib.Core.Path.{◌≡◌, sym, ap, ◌∙◌}
use mathlib.Core.List.{List, [], ◌∷◌, ◌++◌}
use Prim.Native.Nat.{ℕ, ◌+◌, ◌-◌, ◌<◌, ◌≤◌}
use native.Mathlib.Numerals.{add-one}
use native.Mathlib.Omega.{arith}
use lib.ListN.{length, take, drop, get_or, drop_of_length-le, length-append}
use lib.Seq.{drop-cons, take-take, length-take-le}
use Rattle.sheet.specs.Replies.{Ask}
use Rattle.decomposition.specs.declared.suffixes.Stripped.{Stripped}
use Rattle.tables.specs.Rows.{prefix_forms, suffixes}
use Rattle.decomposition.specs.declared.fronts.Front.{Front}
use Rattle.decomposition.specs.declared.Parts.{Parts}
use Rattle.decomposition.proofs.Leading.{lent_rest}
use Rattle.decomposition.specs.Strips.{least_root, first_front, Stage, label_row, left_of, first_taken, taken, strip_row, strip_rows}
use Rattle.decomposition.specs.Parts.{whole_stage, parts_at, of_stage, behind_front, decomposed_of}
use Rattle.decomposition.specs.Places.{stage_of, Held, FirstLeft, stripped_of}

-- One row more.

abbrev pub rests_at : Ask → ℕ → List ℕ → List ℕ → Stripped → List (List ℕ)
rests_at ask least whole suffix s = first_taken ask least (left_of ask (take s.len whole) suffix)

module _ (ask : Ask) (least k : ℕ) (whole suffix : List ℕ) (s : Stripped) (held : Held whole k s) where
  pub row-none : FirstLeft (take s.len whole) None (rests_at ask least whole suffix s)
      → (stage_of whole s ≡ strip_row ask least k suffix (stage_of whole s)) × Held whole (k + 1) s
  unfolding strip_row
  row-none f = (
    ap (λ (l : List (List ℕ)). taken k l (stage_of whole s)) f.says,
    record { inside = held.inside; few = omega (arith, held.few) },
  )

  pub row-some : (n label : ℕ) (r : Stripped) → FirstLeft (take s.len whole) (Some n) (rests_at ask least whole suffix s)
      → r.len ≡ n → label ≡ label_row k → r.labels.items ≡ s.labels.items ++ (label ∷ [])
      → (stage_of whole r ≡ strip_row ask least k suffix (stage_of whole s)) × Held whole (k + 1) r
  unfolding strip_row
  row-some n label r f p e l =
      let u : length (take s.len whole) ≡ s.len = length-take-le s.len whole held.inside in
      let w : n ≤ s.len = omega (arith, f.within) in
      let more : r.labels.items ≡ s.labels.items ++ (label_row k ∷ []) = l ∙ ap (λ (x : ℕ). s.labels.items ++ (x ∷ [])) e in
      let count : length r.labels.items ≡ length s.labels.items + 1 = ap (length {A = ℕ}) l ∙ length-append s.labels.items (label ∷ []) in
      let piece : take r.len whole ≡ take n (take s.len whole) = ap (λ (x : ℕ). take x whole) p ∙ sym (take-take n s.len whole w) in (
        same_stage piece more ∙ ap (λ (x : List (List ℕ)). taken k x (stage_of whole s)) f.says,
        record { inside = omega (arith, held.inside); few = omega (arith, held.few, count) },
      )
    where
      same_stage : {a b : List ℕ} {x y : List ℕ} → a ≡ b → x ≡ y → ◌≡◌ {A = Stage} (record { piece = a; labels = x }) (record { piece = b; labels = y })
      same_stage p q = cc

-- All rows.

module _ (ask : Ask) (least : ℕ) (rows : List (List ℕ)) (k : ℕ) where
  pub rows_turn : (s t : Stage) (suffix : List ℕ) → k < length rows → suffix ≡ get_or rows k [] → t ≡ strip_row ask least k suffix s
      → strip_rows ask least k (drop k rows) s ≡ strip_rows ask least (k + 1) (drop (k + 1) rows) t
  rows_turn s t suffix h e q = rw (add-one, drop-cons rows k [], q, e)

  pub rows_end : (s : Stage) → length rows ≤ k → strip_rows ask least k (drop k rows) s ≡ s
  rows_end s h = rw (drop_of_length-le rows h)

-- what the code has in the end
pub ended : (whole : List ℕ) (s : Stripped) (n : ℕ) → Held whole n s → s ≡ stripped_of (stage_of whole s)
ended whole s n held = same_stripped (sym (length-take-le s.len whole held.inside))
  where
    same_stripped : {a b : ℕ} → a ≡ b → ◌≡◌ {A = Stripped} (record { len = a; labels = s.labels }) (record { len = b; labels = s.labels })
    same_stripped p = cc

-- the parts that the code makes of a front and of what is left behind it
pub decomposed_is : (ask : Ask) (w : List ℕ) (f : Front) (least : ℕ) (s : Stripped) (p : Parts) → f ≡ first_front ask w 0 prefix_forms → least ≡ least_root f.prefix
    → s ≡ stripped_of (strip_rows ask least 0 suffixes (whole_stage (take (length w - f.from) (drop f.from w))))
    → p ≡ parts_at f s.len s.labels.items → p ≡ decomposed_of ask w
unfolding decomposed_of behind_front
decomposed_is ask w f least s p e l q r =
    let t : strip_rows ask least 0 suffixes (whole_stage (take (length w - f.from) (drop f.from w))) ≡ strip_rows ask (least_root f.prefix) 0 suffixes (whole_stage (drop f.from w)) =
    rw (l, lent_rest w f.from) in
    r
    ∙ ap (λ (x : Stripped). parts_at f x.len x.labels.items) q
    ∙ ap (of_stage f) t
    ∙ ap (λ (x : Front). of_stage x (strip_rows ask (least_root x.prefix) 0 suffixes (whole_stage (drop x.from w)))) e
