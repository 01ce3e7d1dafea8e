-- What the static library's functions give can be read back as the C header does (specs/Read): the parts of a code, and the rows of
-- readings, candidates and decompositions. Assumes nothing.
use Rattle.std.specs.Prelude.{Err, Ok, Result, Option, Some, None}
use Prim.Native.Nat.{ℕ, zero, suc, ◌+◌, ◌*◌, ◌/◌, ◌%◌, ◌≤◌, ◌<◌}
use native.Mathlib.Omega.{arith}
use native.Mathlib.Nat.{mul-suc, mul-zero, not-suc-le-zero, le_of_suc-le-suc}
use mathlib.Core.Path.{◌≡◌, refl, sym, ap, subst, ◌∙◌}
use mathlib.Core.Bool.{Bool, true, false}
use mathlib.Core.List.{List, [], ◌∷◌, ◌++◌, map, append_assoc}
use lib.ListN.{length, take, drop, get_or}
use lib.Seq.{take_at, drop-append-add}
use lib.Dec.{T}
use lib.Ieee.{Float, binary32, fits, of_bits, to_bits}
use lib.Ieee.Bits.{of_bits-to_bits}
use Rattle.exports.proofs.Sure.{decision-fits}
use Rattle.text.specs.Word.{word_limit}
use Rattle.tables.specs.declared.origins.Origin.{Origin}
use Rattle.tables.specs.declared.origins.Origin.TheVariants.{Tatsam, Tadbhav, Deshaj, Aagantuk}
use Rattle.refusals.specs.Refusals.{number, places}
use Rattle.refusals.proofs.Outputs.{number_small}
use Rattle.text.specs.declared.word.WordFault.{WordFault}
use Rattle.sheet.specs.Inputs.{inputs_of, of_word, by_sheet, numbers_given}
use Rattle.sheet.specs.declared.check.SheetFault.{SheetFault}
use Rattle.refusals.specs.declared.Refusal.{Refusal}
use Rattle.sheet.specs.Replies.{reply}
use Rattle.progressive.specs.Progressive.{Outcome, no, yes, progressive_of}
use Rattle.progressive.specs.Found.{form_of}
use Rattle.progressive.specs.Answers.{answer_if, answer_of}
use Rattle.progressive.specs.declared.find.Progressive.{Progressive}
use Rattle.ranking.specs.Past.{no_row}
use Rattle.ranking.specs.Stored.{cells, reading_bytes, reading_at}
use Rattle.ranking.proofs.Backs.{two_read, reading_read}
use Rattle.ranking.specs.declared.Reading.{Reading}
use Rattle.ranking.specs.declared.Classified.{Classified}
use Rattle.paths.specs.Chains.{Route}
use Rattle.paths.specs.Readings.{row_of}
use Rattle.analysis.specs.Answers.{said_of, rows_given}
use Rattle.origin.specs.declared.OriginSource.{OriginSource}
use Rattle.origin.specs.declared.OriginSource.TheVariants.{Override, Kosha, Heuristic, Unknown}
use Rattle.origin.specs.declared.OriginDecision.{OriginDecision}
use Rattle.decomposition.specs.Parts.{prefixes_of, morpheme_of}
use Rattle.std.specs.Option.{unwrap_or}
use Rattle.decomposition.specs.Answers.{morpheme_if, morpheme_answer}
use Rattle.decomposition.specs.declared.Parts.{Parts}
use Rattle.decomposition.specs.declared.Morpheme.{Morpheme}
use Rattle.roots.specs.Lists.{no_candidate}
use Rattle.roots.specs.Answers.{roots_for}
use Rattle.roots.specs.declared.RootCandidate.{RootCandidate}
use Rattle.exports.specs.Codes.{coded, answered, bit, word_code, sheet_code, refusal_code, form_value, progressive_code, origin_number, source_number, origin_code}
use Rattle.exports.specs.Read.{number_of, value_of, found_of, negative_of, main_end_of, lemma_len_of, lemma_at_of, origin_of, source_of, origin_at, source_at, row_at, has_bit, prefix_at, PrefixRead, parts_at, candidate_at, decomposition_at}
use Rattle.exports.specs.Rows.{four_bytes, row_bytes, row_width, each, rows_filled, readings_if, readings_filled}
use Rattle.exports.specs.Filled.{parts_bytes, morpheme_bytes, candidate_bytes, decompose_if, decompose_filled, candidates_if, candidates_filled}
use Rattle.exports.proofs.Bounds.{SmallForm, answer_small}
use Rattle.exports.proofs.Widths.{rows_long}
use Rattle.exports.proofs.Put.{both, stored_long, cells_full}
use Rattle.exports.proofs.Enough.{two_prefixes, four_segments, given_paths}
use Rattle.exports.proofs.Places.{Full, FullRow, Every, morpheme_full, roots_full}

-- the number of a code and the place above it, 0 where there is none
coded_read : (n : ℕ) (places : List ℕ) → n < 256 → (number_of (coded (n ∷ places)) ≡ n) × (value_of (coded (n ∷ places)) ≡ get_or places 0 0)
coded_read n [] h = (omega arith, omega arith)
coded_read n (at ∷ more) h = (omega arith, omega arith)

pub refusal_read : (r : Refusal) → (number_of (refusal_code r) ≡ number r) × (value_of (refusal_code r) ≡ get_or (places r) 0 0)
refusal_read r = coded_read (number r) (places r) (number_small r).1

-- the number of a refusal is not 0, so no answer's code has it
pub refusal-numbered : (r : Refusal) → 1 ≤ number_of (refusal_code r)
refusal-numbered r = let n = number_small r in let e = (refusal_read r).0 in omega (arith, n)

-- the value of an answer
pub answer_read : (value : ℕ) → (number_of (answered value) ≡ 0) × (value_of (answered value) ≡ value)
answer_read value = (omega arith, omega arith)

-- the same of what the checks of a word and of a sheet give: 0 for accepted ones
inputs_read : (i : Result (Unit {0}) Refusal) → (number_of (coded (numbers_given i)) ≡ get_or (numbers_given i) 0 0) × (value_of (coded (numbers_given i)) ≡ get_or (numbers_given i) 1 0)
inputs_read (Ok _) = (refl, refl)
inputs_read (Err r) = refusal_read r

pub word_read : (c : Result (Unit {0}) WordFault) → (number_of (word_code c) ≡ get_or (numbers_given (of_word c)) 0 0) × (value_of (word_code c) ≡ get_or (numbers_given (of_word c)) 1 0)
word_read c = inputs_read (of_word c)

pub sheet_read : (c : Result (Unit {0}) SheetFault) → (number_of (sheet_code c) ≡ get_or (numbers_given (by_sheet c)) 0 0) × (value_of (sheet_code c) ≡ get_or (numbers_given (by_sheet c)) 1 0)
sheet_read c = inputs_read (by_sheet c)

bit_small : (b : Bool) → bit b ≤ 1
bit_small true = omega arith
bit_small false = omega arith

-- the parts of a form's value, as numbers
parts_read : (b m l a : ℕ) → b ≤ 1 → m < 256 → l < 256 →
    ((1 + 2 * b + 4 * m + 1024 * l + 262144 * a) % 2 ≡ 1)
    × ((1 + 2 * b + 4 * m + 1024 * l + 262144 * a) / 2 % 2 ≡ b)
    × ((1 + 2 * b + 4 * m + 1024 * l + 262144 * a) / 4 % 256 ≡ m)
    × ((1 + 2 * b + 4 * m + 1024 * l + 262144 * a) / 1024 % 256 ≡ l)
    × ((1 + 2 * b + 4 * m + 1024 * l + 262144 * a) / 262144 ≡ a)
parts_read b m l a hb hm hl = (omega arith, omega arith, omega arith, omega arith, omega arith)

-- the main form ends in the word
abbrev EndsInside : List ℕ → Result (Option Progressive) Refusal → Type 0
EndsInside w (Err r) = Unit {0}
EndsInside w (Ok None) = Unit {0}
EndsInside w (Ok (Some f)) = f.main_end ≤ length w

form-inside : (w s : List ℕ) (o : Outcome) → EndsInside w (Ok (form_of s w o))
form-inside w s no = tt
form-inside w s (yes name n) = omega arith

answer_inside : (w s : List ℕ) → EndsInside w (answer_of w s)
unfolding answer_of
answer_inside w s = by (inputs_of w s)
  where
    by : (i : Result (Unit {0}) Refusal) → EndsInside w (answer_if i w s)
    by (Ok _) = form-inside w s (progressive_of (reply s) w)
    by (Err r) = tt

-- the code reads as the form, which was found
abbrev pub FormRead : ℕ → Progressive → Type 0
FormRead code f =
    (number_of code ≡ 0)
    × (found_of code ≡ 1)
    × (negative_of code ≡ bit f.negative)
    × (main_end_of code ≡ f.main_end)
    × (lemma_len_of code ≡ f.lemma_len)
    × (lemma_at_of code ≡ f.lemma_at)

-- so it does within the bounds of main form and lemma
pub form_read : (f : Progressive) → f.main_end ≤ word_limit → f.lemma_len ≤ 210 → FormRead (answered (form_value (Some f))) f
form_read f h k =
    let p = parts_read (bit f.negative) f.main_end f.lemma_len f.lemma_at (bit_small f.negative) (omega arith) (omega arith) in
    let v = 1 + 2 * bit f.negative + 4 * f.main_end + 1024 * f.lemma_len + 262144 * f.lemma_at in
    let a = answer_read v in
    (a.0, ap (λ (x : ℕ). x % 2) a.1 ∙ p.0, ap (λ (x : ℕ). x / 2 % 2) a.1 ∙ p.1, ap (λ (x : ℕ). x / 4 % 256) a.1 ∙ p.2, ap (λ (x : ℕ). x / 1024 % 256) a.1 ∙ p.3, ap (λ (x : ℕ). x / 262144) a.1 ∙ p.4)

-- and so for every word and sheet, since answers keep to them
pub progressive_read : (w s : List ℕ) (f : Progressive) → answer_of w s ≡ Ok (Some f) → FormRead (progressive_code (answer_of w s)) f
progressive_read w s f e =
    let n : SmallForm w s (Ok (Some f)) = subst (SmallForm w s) e (answer_small w s) in
    let m : EndsInside w (Ok (Some f)) = subst (EndsInside w) e (answer_inside w s) in
    subst (λ (a : Result (Option Progressive) Refusal). FormRead (progressive_code a) f) (sym e) (form_read f (omega (arith, n, m)) n.2)

-- none was found
pub no_form_read : answered (form_value None) ≡ 0
no_form_read = refl

origin_small : (o : Origin) → origin_number o ≤ 3
origin_small Tatsam = omega arith
origin_small Tadbhav = omega arith
origin_small Deshaj = omega arith
origin_small Aagantuk = omega arith

source_small : (x : OriginSource) → source_number x ≤ 3
source_small Override = omega arith
source_small Kosha = omega arith
source_small Heuristic = omega arith
source_small Unknown = omega arith

-- an origin and its source
pub origin_read : (d : OriginDecision) →
    (number_of (origin_code (Ok d)) ≡ 0)
    × (origin_of (origin_code (Ok d)) ≡ origin_number d.origin)
    × (source_of (origin_code (Ok d)) ≡ source_number d.source)
origin_read d =
    let o = origin_small d.origin in
    let s = source_small d.source in
    (omega arith, omega arith, omega arith)

-- Rows of one width, of elements of which their rows say what is read off them.

module _ {A : Type 0} (width : ℕ) (bytes : A → List ℕ) (Says : List ℕ → A → Type 0) (d : A) (Whole : A → Type 0)
    (wide : (x : A) → length (bytes x) ≡ width) (read : (x : A) (rest : List ℕ) → Whole x → Says (bytes x ++ rest) x) where
  -- row i of those that stand one after the other
  rows_say : (xs : List A) (i : ℕ) (rest : List ℕ) → Every Whole xs → i < length xs → Says (drop (width * i) (each bytes xs ++ rest)) (get_or xs i d)
  unfolding each
  rows_say [] i rest h l = absurd (not-suc-le-zero l)
  rows_say (x ∷ xs) zero rest h l =
      let e : bytes x ++ (each bytes xs ++ rest) ≡ drop (width * 0) ((bytes x ++ each bytes xs) ++ rest) =
      sym (ap (λ (n : ℕ). drop n ((bytes x ++ each bytes xs) ++ rest)) (mul-zero width) ∙ append_assoc (bytes x) (each bytes xs) rest) in
      subst (λ (ys : List ℕ). Says ys x) e (read x (each bytes xs ++ rest) h.0)
  rows_say (x ∷ xs) (suc i) rest h l =
      let m = mul-suc width i in
      let n = wide x in
      let k : width * suc i ≡ length (bytes x) + width * i = omega arith in
      let e : drop (width * i) (each bytes xs ++ rest) ≡ drop (width * suc i) ((bytes x ++ each bytes xs) ++ rest) =
      sym (ap (λ (ys : List ℕ). drop (width * suc i) ys) (append_assoc (bytes x) (each bytes xs) rest)
      ∙ ap (λ (n : ℕ). drop n (bytes x ++ (each bytes xs ++ rest))) k
      ∙ drop-append-add (bytes x) (each bytes xs ++ rest) (width * i)) in
      subst (λ (ys : List ℕ). Says ys (get_or xs i d)) e (rows_say xs i rest h.1 (le_of_suc-le-suc l))

module _ {A : Type 0} (width : ℕ) (bytes : A → List ℕ) (back : List ℕ → A) (d : A) (Whole : A → Type 0) (wide : (x : A) → length (bytes x) ≡ width)
    (read : (x : A) (rest : List ℕ) → Whole x → back (bytes x ++ rest) ≡ x) where
  -- the same of elements that their rows give back
  rows_read : (xs : List A) (i : ℕ) (rest : List ℕ) → Every Whole xs → i < length xs → back (drop (width * i) (each bytes xs ++ rest)) ≡ get_or xs i d
  rows_read = rows_say width bytes (λ (ys : List ℕ) (x : A). back ys ≡ x) d Whole wide read

origin_back : (o : Origin) → origin_at (origin_number o) ≡ o
origin_back Tatsam = refl
origin_back Tadbhav = refl
origin_back Deshaj = refl
origin_back Aagantuk = refl

source_back : (x : OriginSource) → source_at (source_number x) ≡ x
source_back Override = refl
source_back Kosha = refl
source_back Heuristic = refl
source_back Unknown = refl

four_back : (n : ℕ) → n % 256 + 256 * (n / 256 % 256) + 65536 * (n / 65536 % 256) + 16777216 * (n / 16777216) ≡ n
four_back n = omega arith

-- two places for prefixes and four for segments, and a confidence that is an f32
abbrev Shaped : Classified → Type 0
Shaped r = (length r.reading.prefixes ≡ 2) × (length r.reading.segments ≡ 4) × T (fits binary32 r.confidence)

row_is : (r : Classified) {x : Reading} {o : Origin} {s : OriginSource} {f : Float} → x ≡ r.reading → o ≡ r.origin → s ≡ r.source → f ≡ r.confidence
    → record { reading = x; origin = o; source = s; confidence = f } ≡ r
row_is r e f g h = rw (e, f, g, h)

-- at the front of any bytes a row gives its reading back, with origin, source and confidence
pub row_read : (r : Classified) (rest : List ℕ) → Shaped r → row_at (row_bytes r ++ rest) ≡ r
row_read r rest h =
    let tail = origin_number r.origin ∷ source_number r.source ∷ four_bytes (to_bits binary32 r.confidence) in
    row_is r
    (ap reading_at (append_assoc (reading_bytes r.reading) tail rest) ∙ reading_read r.reading (tail ++ rest) h.0 h.1)
    (origin_back r.origin) (source_back r.source)
    (ap (of_bits binary32) (four_back (to_bits binary32 r.confidence)) ∙ of_bits-to_bits binary32 r.confidence h.2)

path_shaped : (w s : List ℕ) (p : Route) → Shaped (row_of (reply s) w p)
unfolding row_of
path_shaped w s p = (two_prefixes (reply s) w p, four_segments (reply s) w p, decision-fits (reply s) p.root)

given_shaped : (w s : List ℕ) → said_of w s ≡ Ok tt → Every Shaped (rows_given w s)
given_shaped w s e =
    let l = (given_paths w s e).1 in
    subst (Every Shaped) l.rows_are (by l.paths)
  where
    by : (ps : List Route) → Every Shaped (map (row_of (reply s) w) ps)
    by [] = tt
    by (p ∷ ps) = (path_shaped w s p, by ps)

-- each reading of a list that is given and fits in is read back from its row in the buffer, with its root's origin, source and confidence
pub readings_read : (w s out : List ℕ) → said_of w s ≡ Ok tt → row_width * length (rows_given w s) ≤ length out → (i : ℕ) → i < length (rows_given w s)
    → row_at (drop (row_width * i) (readings_filled w s out).buffer) ≡ get_or (rows_given w s) i no_row
unfolding readings_filled
readings_read w s out e h i l =
    let f : rows_filled row_width row_bytes (rows_given w s) out ≡ readings_if (said_of w s) (rows_given w s) out = ap (λ (x : Result (Unit {0}) Refusal). readings_if x (rows_given w s) out) (sym e) in
    let b : each row_bytes (rows_given w s) ++ drop (row_width * length (rows_given w s)) out ≡ (readings_if (said_of w s) (rows_given w s) out).buffer =
    (both f (rows_long row_bytes row_width (length (rows_given w s)) (rows_given w s) out refl _ h refl)).1 in
    ap (λ (xs : List ℕ). row_at (drop (row_width * i) xs)) (sym b)
    ∙ rows_read row_width row_bytes row_at no_row Shaped (λ r. refl) row_read
    (rows_given w s) i (drop (row_width * length (rows_given w s)) out) (given_shaped w s e) l

-- the rows of a candidate and of a decomposition

known_back : (a b : Bool) → (has_bit 1 (bit a + 2 * bit b) ≡ a) × (has_bit 2 (bit a + 2 * bit b) ≡ b)
known_back true true = (refl, refl)
known_back true false = (refl, refl)
known_back false true = (refl, refl)
known_back false false = (refl, refl)

cells_long : (n i : ℕ) (xs : List ℕ) → length (cells n i xs) ≡ n
cells_long zero i xs = refl
cells_long (suc n) i xs = ap suc (cells_long n (suc i) xs)

cells-back : (xs rest : List ℕ) → length xs ≡ 24 → take 24 (cells 24 0 xs ++ rest) ≡ xs
cells-back xs rest e = take_at (cells 24 0 xs) rest 24 (cells_long 24 0 xs) ∙ cells_full 24 xs e

parts_is : (p : Parts) {o : Option ℕ} {xs : List ℕ} → o ≡ p.prefix → xs ≡ p.suffixes → record {
  start = p.start;
  end = p.end;
  prefix = o;
  suffix_count = p.suffix_count;
  suffixes = xs;
} ≡ p
parts_is p e f = rw (e, f)

prefix_back : (o : Option ℕ) → prefix_at (unwrap_or o 0) (length (prefixes_of o)) ≡ o
prefix_back None = refl
prefix_back (Some row) = refl

-- the two bytes of the prefix
prefix_read : (start end : ℕ) (o : Option ℕ) (rest : List ℕ) → PrefixRead (start ∷ end ∷ unwrap_or o 0 ∷ length (prefixes_of o) ∷ rest) o
prefix_read start end None rest = (refl, refl)
prefix_read start end (Some row) rest = (refl, refl)

parts-prefix : (p : Parts) (more rest : List ℕ) → PrefixRead (parts_bytes p more ++ rest) p.prefix
parts-prefix p more rest = prefix_read p.start p.end p.prefix (p.suffix_count ∷ ((more ++ cells 24 0 p.suffixes) ++ rest))

parts-back : (p : Parts) (a b c d : ℕ) (rest : List ℕ) → Full p → parts_at (parts_bytes p (a ∷ b ∷ c ∷ d ∷ []) ++ rest) ≡ p
parts-back p a b c d rest h = parts_is p (prefix_back p.prefix) (cells-back p.suffixes rest h)

candidate_is : (c : RootCandidate) {n : ℕ} {p : Parts} {o : Origin} {a b : Bool} → n ≡ c.score → p ≡ c.parts → o ≡ c.origin → a ≡ c.known_word
    → b ≡ c.known_headword → record { score = n; parts = p; origin = o; known_word = a; known_headword = b } ≡ c
candidate_is c e f g h k = rw (e, f, g, h, k)

morpheme_is : (m : Morpheme) {p : Parts} {o : Origin} → p ≡ m.parts → o ≡ m.origin → record { parts = p; origin = o } ≡ m
morpheme_is m e f = rw (e, f)

-- what is read off a candidate's row
abbrev CandidateRead : List ℕ → RootCandidate → Type 0
CandidateRead bytes c = (candidate_at bytes ≡ c) × PrefixRead bytes c.parts.prefix

-- at the front of any bytes a candidate's row gives the candidate back, and the two bytes of its prefix are that prefix's
pub candidate_read : (c : RootCandidate) (rest : List ℕ) → FullRow c
    → (candidate_at (candidate_bytes c ++ rest) ≡ c) × PrefixRead (candidate_bytes c ++ rest) c.parts.prefix
candidate_read c rest h =
    let k = known_back c.known_word c.known_headword in
    let more = origin_number c.origin ∷ (bit c.known_word + 2 * bit c.known_headword) ∷ (c.score % 256) ∷ (c.score / 256) ∷ [] in
    let p = parts-back c.parts (origin_number c.origin) (bit c.known_word + 2 * bit c.known_headword) (c.score % 256) (c.score / 256) rest h in
    (candidate_is c (two_read c.score) p (origin_back c.origin) k.0 k.1, parts-prefix c.parts more rest)

-- and a decomposition's row the decomposition
pub morpheme_read : (m : Morpheme) (rest : List ℕ) → Full m.parts
    → (decomposition_at (morpheme_bytes m ++ rest) ≡ m) × PrefixRead (morpheme_bytes m ++ rest) m.parts.prefix
morpheme_read m rest h =
    let more = origin_number m.origin ∷ 0 ∷ 0 ∷ 0 ∷ [] in
    (morpheme_is m (parts-back m.parts (origin_number m.origin) 0 0 0 rest h) (origin_back m.origin), parts-prefix m.parts more rest)

-- each candidate of a list that fits in is read back from its row in the buffer, where the two bytes of its prefix are that prefix's
pub candidates_read : (w s out : List ℕ) → inputs_of w s ≡ Ok tt → 33 * length (roots_for w s) ≤ length out → (i : ℕ) → i < length (roots_for w s)
    → (candidate_at (drop (33 * i) (candidates_filled w s out).buffer) ≡ get_or (roots_for w s) i no_candidate)
    × PrefixRead (drop (33 * i) (candidates_filled w s out).buffer) (get_or (roots_for w s) i no_candidate).parts.prefix
unfolding candidates_filled
candidates_read w s out e h i l =
    let f : rows_filled 33 candidate_bytes (roots_for w s) out ≡ candidates_if (inputs_of w s) (roots_for w s) out = ap (λ (x : Result (Unit {0}) Refusal). candidates_if x (roots_for w s) out) (sym e) in
    let b : each candidate_bytes (roots_for w s) ++ drop (33 * length (roots_for w s)) out ≡ (candidates_if (inputs_of w s) (roots_for w s) out).buffer =
    (both f (rows_long candidate_bytes 33 (length (roots_for w s)) (roots_for w s) out refl _ h refl)).1 in
    subst (λ (xs : List ℕ). CandidateRead (drop (33 * i) xs) (get_or (roots_for w s) i no_candidate)) b
    (rows_say 33 candidate_bytes CandidateRead no_candidate FullRow (λ c. refl) candidate_read
    (roots_for w s) i (drop (33 * length (roots_for w s)) out) (roots_full w s) l)

-- the decomposition of an accepted word and sheet is read back from a buffer that is long enough, where the two bytes of its prefix
-- are that prefix's
pub decomposition_read : (w s out : List ℕ) → inputs_of w s ≡ Ok tt → 33 ≤ length out
    → (Ok (decomposition_at (decompose_filled w s out).buffer) ≡ morpheme_answer w s)
    × PrefixRead (decompose_filled w s out).buffer (morpheme_of (reply s) w).parts.prefix
unfolding decompose_filled morpheme_answer
decomposition_read w s out e h =
    let m = morpheme_of (reply s) w in
    let f : decompose_if (Ok m) out ≡ decompose_if (morpheme_if (inputs_of w s) w s) out = ap (λ (x : Result (Unit {0}) Refusal). decompose_if (morpheme_if x w s) out) (sym e) in
    let b : morpheme_bytes m ++ drop 33 out ≡ (decompose_if (morpheme_if (inputs_of w s) w s) out).buffer = (both f (stored_long 0 (morpheme_bytes m) out _ h refl)).1 in
    let r = morpheme_read m (drop 33 out) (morpheme_full (reply s) w) in (
      ap (λ (xs : List ℕ). Ok (decomposition_at xs)) (sym b) ∙ ap (λ (x : Morpheme). Ok x) r.0 ∙ ap (λ (x : Result (Unit {0}) Refusal). morpheme_if x w s) (sym e),
      subst (λ (xs : List ℕ). PrefixRead xs m.parts.prefix) b r.1,
    )
