-- Cells of which the first are rows and all others are blank. The proofs of `list` cite these. Assumes nothing.
use Rattle.std.proofs.Common.{◌≡◌, ℕ, ◌+◌, ◌-◌, ◌≤◌, List, ◌++◌, length, take, drop, replicate, sym, ap, ◌∙◌, arith, drop-drop, length-take-le, take-append-drop}
use Rattle.std.proofs.lemmas.List.{drop-replicate}

module _ {T : Type 0} where
  -- there are as many rows as are counted
  pub shortened : (xs : List T) (n cap : ℕ) → n ≤ cap → length xs ≡ cap → length (take n xs) ≡ n
  shortened xs n cap l e = length-take-le n xs (omega (arith, l, e))

  -- behind one row more
  pub blank_rest : (b : T) (cap : ℕ) (xs : List T) (n : ℕ) → drop n xs ≡ replicate (cap - n) b → drop (n + 1) xs ≡ replicate (cap - (n + 1)) b
  blank_rest b cap xs n e =
      sym (drop-drop 1 n xs) ∙ ap (drop 1) e ∙ drop-replicate 1 (cap - n) b
      ∙ ap (λ (k : ℕ). replicate k b) {x = cap - n - 1} {y = cap - (n + 1)} (omega arith)

  -- rows and blank cells are all cells
  pub rejoined : (b : T) (cap : ℕ) (xs : List T) (n : ℕ) → (n ≤ cap) × (length xs ≡ cap) × (drop n xs ≡ replicate (cap - n) b)
      → take n xs ++ replicate (cap - length (take n xs)) b ≡ xs
  rejoined b cap xs n i =
      ap (λ (k : ℕ). take n xs ++ replicate (cap - k) b) (shortened xs n cap i.0 i.1)
      ∙ ap (λ (r : List T). take n xs ++ r) (sym i.2) ∙ take-append-drop n xs
