-- The row of a reading gives it back. The proofs of the functions on rows cite these. Assumes nothing.
use Prim.Native.Nat.{ℕ, ◌+◌, ◌*◌, ◌/◌, ◌%◌, ◌<◌}
use mir.Syntax.{w16}
use Rattle.std.specs.Int.{to_le_bytes}
use native.Mathlib.Omega.{arith}
use mir.Val.{bool_byte}
use mathlib.Core.Path.{◌≡◌, refl, ap₂}
use mathlib.Core.Bool.{Bool, true, false}
use lib.Dec.{ltb}
use mathlib.Core.List.{List, [], ◌∷◌, ◌++◌}
use lib.ListN.{length, get_or}
use Rattle.ranking.specs.declared.AffixKind.{AffixKind}
use Rattle.ranking.specs.declared.AffixKind.TheVariants.{Particle, CaseMarker, PluralMarker, Postposition, ComparisonMarker}
use Rattle.ranking.specs.declared.Segment.{Segment}
use Rattle.ranking.specs.declared.Reading.{Reading}
use Rattle.ranking.specs.Stored.{kind_number, mark_number, kind_at, no_segment, segment_bytes, two_at, segment_at, reading_bytes, reading_at}

kind_read : (k : AffixKind) → kind_at (kind_number k) ≡ k
kind_read Particle = refl
kind_read CaseMarker = refl
kind_read PluralMarker = refl
kind_read Postposition = refl
kind_read ComparisonMarker = refl

pub two_read : (n : ℕ) → n % 256 + 256 * (n / 256) ≡ n
two_read n = omega arith

-- a list of so many elements is its elements
pair_read : (xs : List ℕ) → length xs ≡ 2 → get_or xs 0 0 ∷ get_or xs 1 0 ∷ [] ≡ xs
pair_read [] e = absurd (omega arith)
pair_read (x ∷ []) e = absurd (omega arith)
pair_read (x ∷ y ∷ []) e = refl
pair_read (x ∷ y ∷ z ∷ xs) e = absurd (omega arith)

mark_read : (b : Bool) → ltb 0 (mark_number b) ≡ b
mark_read true = refl
mark_read false = refl

segment_read : (x : Segment) → record { label = x.label; kind = kind_at (kind_number x.kind); shared = ltb 0 (mark_number x.shared) } ≡ x
segment_read x = ap₂ (λ (k : AffixKind) (b : Bool). record { label = x.label; kind = k; shared = b }) (kind_read x.kind) (mark_read x.shared)

abbrev segment_back : List Segment → ℕ → Segment
segment_back xs i = record { label = (get_or xs i no_segment).label; kind = kind_at (kind_number (get_or xs i no_segment).kind); shared = ltb 0 (mark_number (get_or xs i no_segment).shared) }

four_read : (xs : List Segment) → length xs ≡ 4 → segment_back xs 0 ∷ segment_back xs 1 ∷ segment_back xs 2 ∷ segment_back xs 3 ∷ [] ≡ xs
four_read [] e = absurd (omega arith)
four_read (a ∷ []) e = absurd (omega arith)
four_read (a ∷ b ∷ []) e = absurd (omega arith)
four_read (a ∷ b ∷ c ∷ []) e = absurd (omega arith)
four_read (a ∷ b ∷ c ∷ d ∷ []) e = rw (segment_read a, segment_read b, segment_read c, segment_read d)
four_read (a ∷ b ∷ c ∷ d ∷ f ∷ xs) e = absurd (omega arith)

reading_is : (r : Reading) {a b c : ℕ} {p : List ℕ} {g : List Segment} → a ≡ r.stem → b ≡ r.root → c ≡ r.score → p ≡ r.prefixes → g ≡ r.segments
    → record { stem = a; root = b; score = c; prefixes = p; segments = g; prefix_count = r.prefix_count; suffix_count = r.suffix_count } ≡ r
reading_is r e f g h k = rw (e, f, g, h, k)

-- at the front of any bytes a row gives its reading back
pub reading_read : (r : Reading) (rest : List ℕ) → length r.prefixes ≡ 2 → length r.segments ≡ 4 → reading_at (reading_bytes r ++ rest) ≡ r
reading_read r rest p s =
    reading_is r (two_read r.stem) (two_read r.root) (two_read r.score) (pair_read r.prefixes p) (four_read r.segments s)

-- the bytes that are stored are those of the row
marked : (b : Bool) → bool_byte b ≡ mark_number b
marked true = refl
marked false = refl

pub segment-bytes : (x : Segment) {k m : ℕ} → k ≡ kind_number x.kind → m ≡ bool_byte x.shared → x.label ∷ k ∷ m ∷ [] ≡ segment_bytes x
segment-bytes x p q = rw (p, q, marked x.shared)

-- a number of 16 bits, as two bytes
low_byte : (n : ℕ) {b : List ℕ} → b ≡ to_le_bytes w16 n → get_or b 0 0 ≡ n % 256
low_byte n e = rw e refl

high_byte : (n : ℕ) {b : List ℕ} → n < 65536 → b ≡ to_le_bytes w16 n → get_or b 1 0 ≡ n / 256
high_byte n h e = let f : n / 256 % 256 ≡ n / 256 = omega arith in rw e f

module _ (r : Reading) (small : (r.stem < 65536) × (r.root < 65536) × (r.score < 65536)) where
  pub reading-bytes : {a b c : List ℕ} {g h i j : List ℕ} → a ≡ to_le_bytes w16 r.stem → b ≡ to_le_bytes w16 r.root → c ≡ to_le_bytes w16 r.score
      → g ≡ segment_bytes (get_or r.segments 0 no_segment) → h ≡ segment_bytes (get_or r.segments 1 no_segment)
      → i ≡ segment_bytes (get_or r.segments 2 no_segment) → j ≡ segment_bytes (get_or r.segments 3 no_segment)
      → get_or a 0 0 ∷ get_or a 1 0 ∷ get_or b 0 0 ∷ get_or b 1 0 ∷ get_or c 0 0 ∷ get_or c 1 0
      ∷ get_or r.prefixes 0 0 ∷ get_or r.prefixes 1 0 ∷ (g ++ (h ++ (i ++ (j ++ (r.prefix_count ∷ r.suffix_count ∷ []))))) ≡ reading_bytes r
  reading-bytes p q s w x y z =
      rw (low_byte r.stem p, high_byte r.stem small.0 p, low_byte r.root q, high_byte r.root small.1 q, low_byte r.score s, high_byte r.score small.2 s, w, x, y, z)

-- a reading read part by part
pub reading_parts : (row : List ℕ) {a b c : ℕ} {d e f g : Segment} → a ≡ two_at row 0 → b ≡ two_at row 2 → c ≡ two_at row 4
    → d ≡ segment_at row 8 → e ≡ segment_at row 11 → f ≡ segment_at row 14 → g ≡ segment_at row 17
    → record {
      stem = a;
      root = b;
      score = c;
      prefixes = get_or row 6 0 ∷ get_or row 7 0 ∷ [];
      segments = d ∷ e ∷ f ∷ g ∷ [];
      prefix_count = get_or row 20 0;
      suffix_count = get_or row 21 0;
    } ≡ reading_at row
reading_parts row p q s t u v w = cc
