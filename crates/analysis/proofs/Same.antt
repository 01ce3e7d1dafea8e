-- What is said of a root's piece and place is said of those that the root was made of. The proofs of the prefix walk cite these. Assumes nothing.
use Rattle.std.specs.Prelude.{ℕ, ◌≡◌, List, [], ◌∷◌, take}
use Rattle.std.specs.Array.{AllOfLen}
use native.Mathlib.Omega.{arith}
use mathlib.Core.Path.{ap₂}
use Rattle.tables.specs.Rows.{prefix_forms}
use Rattle.strips.specs.Prefix.{prefix_remainder}
use Rattle.sheet.specs.Replies.{reply}
use Rattle.progressive.specs.Progressive.{is_progressive}
use Rattle.ranking.specs.Lists.{Rows, plus_all}
use Rattle.paths.specs.Chains.{all_forms}
use Rattle.paths.specs.Walk.{root_walk, over_forms}
use Rattle.paths.specs.Visits.{total, prefix_visits}
use Rattle.paths.specs.declared.Prefixes.{Prefixes}
use Rattle.paths.specs.Readings.{prefixes_of}
use Rattle.analysis.specs.declared.piece.Piece.{Piece}
use Rattle.analysis.specs.Places.{between, root_found}

module _ {p q : Piece} {m n : ℕ} where
  pub kept_same : (a : Rows) (xs : Prefixes) → p ≡ q → m ≡ n
      → plus_all p.asked.now.word.now a (root_found (reply p.asked.now.sheet.now.bytes.now) p.surface p.chain p.asked.now.word.now p.end m xs)
      ≡ plus_all q.asked.now.word.now a (root_found (reply q.asked.now.sheet.now.bytes.now) q.surface q.chain q.asked.now.word.now q.end n xs)
  kept_same a xs e f = ap₂ (λ (r : Piece) (k : ℕ). plus_all r.asked.now.word.now a (root_found (reply r.asked.now.sheet.now.bytes.now) r.surface r.chain r.asked.now.word.now r.end k xs)) e f

  pub told_same : p ≡ q → m ≡ n
      → is_progressive (reply p.asked.now.sheet.now.bytes.now) (between p.asked.now.word.now m p.end)
      ≡ is_progressive (reply q.asked.now.sheet.now.bytes.now) (between q.asked.now.word.now n q.end)
  told_same e f = ap₂ (λ (r : Piece) (k : ℕ). is_progressive (reply r.asked.now.sheet.now.bytes.now) (between r.asked.now.word.now k r.end)) e f

  pub forms_same : (a : Rows) (first : ℕ) → p ≡ q → m ≡ n
      → plus_all p.asked.now.word.now a (over_forms (λ second left. root_walk (reply p.asked.now.sheet.now.bytes.now) p.surface p.chain (take p.end p.asked.now.word.now) (first ∷ second ∷ []) left) (between p.asked.now.word.now m p.end) 0 all_forms)
      ≡ plus_all q.asked.now.word.now a (over_forms (λ second left. root_walk (reply q.asked.now.sheet.now.bytes.now) q.surface q.chain (take q.end q.asked.now.word.now) (first ∷ second ∷ []) left) (between q.asked.now.word.now n q.end) 0 all_forms)
  forms_same a first e f = ap₂ (λ (r : Piece) (k : ℕ). plus_all r.asked.now.word.now a (over_forms (λ second left. root_walk (reply r.asked.now.sheet.now.bytes.now) r.surface r.chain (take r.end r.asked.now.word.now) (first ∷ second ∷ []) left) (between r.asked.now.word.now k r.end) 0 all_forms)) e f

  pub visits_same : p ≡ q → m ≡ n
      → total (λ form. total (prefix_visits 0 (reply p.asked.now.sheet.now.bytes.now)) (prefix_remainder (between p.asked.now.word.now m p.end) form)) prefix_forms
      ≡ total (λ form. total (prefix_visits 0 (reply q.asked.now.sheet.now.bytes.now)) (prefix_remainder (between q.asked.now.word.now n q.end) form)) prefix_forms
  visits_same e f = ap₂ (λ (r : Piece) (k : ℕ). total (λ form. total (prefix_visits 0 (reply r.asked.now.sheet.now.bytes.now)) (prefix_remainder (between r.asked.now.word.now k r.end) form)) prefix_forms) e f

-- two zeros
zeros : (xs : List ℕ) → AllOfLen (λ (n : ℕ). n ≡ 0) xs 2 → xs ≡ 0 ∷ 0 ∷ []
zeros [] a = absurd (omega (arith, a.long))
zeros (x ∷ []) a = absurd (omega (arith, a.long))
zeros (x ∷ y ∷ []) a = ap₂ (λ (m n : ℕ). m ∷ n ∷ []) (a.at 0 0 (omega arith)) (a.at 1 0 (omega arith))
zeros (x ∷ y ∷ z ∷ xs) a = absurd (omega (arith, a.long))

-- the default has no prefix
pub none_stripped : (p : Prefixes) → AllOfLen (λ (n : ℕ). n ≡ 0) p.rows 2 × p.count ≡ 0 → p ≡ prefixes_of []
none_stripped p e = ap₂ (λ (xs : List ℕ) (n : ℕ). record { rows = xs; count = n }) (zeros p.rows e.0) e.1
