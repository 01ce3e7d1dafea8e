-- A row of a reading meets its contract: the reading's bytes, and behind them those of its root's origin. Assumes nothing.
use Rattle.std.proofs.Common.{◌≡◌, ℕ, ◌/◌, ◌<◌, List, [], ◌∷◌, ◌++◌, drop, get_or, refl, ap, ◌∙◌, arith, w32}
use Rattle.std.specs.Int.{to_le_bytes}
use lib.Ieee.{binary32, to_bits}
use Rattle.ranking.specs.Stored.{reading_bytes}
use Rattle.ranking.specs.declared.Classified.{Classified}
use Rattle.exports.specs.Codes.{origin_number, source_number}
use Rattle.exports.specs.Rows.{row_bytes}
use Rattle.exports.proofs.Put.{behind-front}
use Rattle.exports.proofs.rows.ClassifiedRow.put.Goals as goal

-- the highest of four bytes
highest : (n : ℕ) → n < 4294967296 → get_or (to_le_bytes w32 n) 3 0 ≡ n / 16777216
highest n h = omega arith

-- the bytes behind the reading
tail-bytes : (r : Classified) {o s n : ℕ} {b : List ℕ} → o ≡ origin_number r.origin → s ≡ source_number r.source → n ≡ to_bits binary32 r.confidence
    → n < 4294967296 → b ≡ to_le_bytes w32 n
    → reading_bytes r.reading ++ (o ∷ s ∷ get_or b 0 0 ∷ get_or b 1 0 ∷ get_or b 2 0 ∷ get_or b 3 0 ∷ []) ≡ row_bytes r
tail-bytes r {n = n} p q e h f = rw (p, q, f, highest n h, e)

pub returns : goal.returns
returns c =
    let a = c.args in
    let b = c.to_le_bytes-bits.result in
    behind-front (reading_bytes a.self.reading) (c.origin_number.result ∷ c.source_number.result ∷ get_or b 0 0 ∷ get_or b 1 0 ∷ get_or b 2 0 ∷ get_or b 3 0 ∷ []) a.out.now _ _ c.put_reading.ensures refl c.copy_from_slice.ensures.after
    ∙ ap (λ (l : List ℕ). l ++ drop 28 a.out.now) (tail-bytes a.self c.origin_number.ensures.0 c.source_number.ensures.0 c.bits_of.ensures (omega arith) c.to_le_bytes-bits.ensures)
