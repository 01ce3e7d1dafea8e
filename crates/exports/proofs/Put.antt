-- Laws of what is stored in a lent buffer. The proofs of the functions of `parts` and `rows` cite these. Assumes nothing.
use Rattle.std.specs.Prelude.{Err, Ok, Result}
use Rattle.refusals.specs.declared.Refusal.{Refusal}
use Prim.Native.Nat.{ℕ, zero, suc, ◌+◌, ◌*◌, ◌/◌, ◌%◌, ◌<◌, ◌≤◌}
use native.Mathlib.Omega.{arith}
use mathlib.Core.Path.{◌≡◌, refl, sym, ap, ◌∙◌}
use mathlib.Core.List.{List, [], ◌∷◌, ◌++◌, append_assoc}
use lib.ListN.{length, take, drop, get_or}
use mir.Syntax.{w16}
use Rattle.std.specs.Int.{to_le_bytes}
use lib.Seq.{take_at, drop_at, drop-drop}
use borrow.Rule.Slice.PartMut.{put_mid}
use borrow.Author.Tests.{lt-ltb, le-ltb}
use Rattle.sheet.specs.Inputs.{inputs_of}
use Rattle.std.specs.Option.{unwrap_or}
use Rattle.decomposition.specs.Parts.{prefixes_of}
use Rattle.decomposition.specs.Answers.{morpheme_if, morpheme_answer}
use Rattle.decomposition.specs.declared.Morpheme.{Morpheme}
use Rattle.decomposition.specs.declared.Parts.{Parts}
use Rattle.ranking.specs.Stored.{cells}
use Rattle.ranking.specs.declared.Classified.{Classified}
use Rattle.analysis.specs.Answers.{said_of, rows_given}
use Rattle.roots.specs.Answers.{roots_for}
use Rattle.roots.specs.declared.RootCandidate.{RootCandidate}
use Rattle.refusals.specs.declared.Refusal.TheVariants.{OutputTooShort}
use Rattle.exports.specs.Codes.{bit, origin_number, refusal_code}
use Rattle.exports.specs.Rows.{Filled, readings_if, readings_filled}
use Rattle.exports.specs.Filled.{parts_bytes, morpheme_bytes, candidate_bytes, stored, decompose_if, decompose_filled, candidates_if, candidates_filled}

pub candidate-bytes : (c : RootCandidate) {o x y : ℕ} {b : List ℕ} → o ≡ origin_number c.origin → x ≡ bit c.known_word → y ≡ bit c.known_headword
    → c.score < 65536 → b ≡ to_le_bytes w16 c.score → parts_bytes c.parts (o ∷ (x + 2 * y) ∷ get_or b 0 0 ∷ get_or b 1 0 ∷ []) ≡ candidate_bytes c
candidate-bytes c p q r h f = let e : c.score / 256 % 256 ≡ c.score / 256 = omega arith in rw (p, q, r, f, e)

pub morpheme-bytes : (m : Morpheme) {o : ℕ} → o ≡ origin_number m.origin → parts_bytes m.parts (o ∷ 0 ∷ 0 ∷ 0 ∷ []) ≡ morpheme_bytes m
morpheme-bytes m p = rw p

-- a buffer that is too short, and one that is long enough
module _ (code : ℕ) (bytes out : List ℕ) where
  pub stored_short : length out < 33 → (refusal_code OutputTooShort ≡ (stored code bytes out).code) × (out ≡ (stored code bytes out).buffer)
  stored_short h = rw (lt-ltb (length out) 33 h) (refl, refl)

  pub stored_long : (later : List ℕ) → 33 ≤ length out → later ≡ bytes ++ drop 33 out → (code ≡ (stored code bytes out).code) × (later ≡ (stored code bytes out).buffer)
  stored_long later h e = rw (le-ltb (length out) 33 h) (refl, e)

-- what an answer about decomposition refuses is refused of word and sheet
pub answer_refused : (w s : List ℕ) (r : Refusal) → Err r ≡ morpheme_answer w s → inputs_of w s ≡ Err r
unfolding morpheme_answer
answer_refused w s r = by (inputs_of w s)
  where
    by : (i : Result (Unit {0}) Refusal) → Err r ≡ morpheme_if i w s → i ≡ Err r
    by (Ok _) e = absurd (let z : ◌≡◌ {A = ℕ} 0 1 = cc in omega arith)
    by (Err q) e = cc

-- what the entries do, by what is said of word and sheet
pub decompose_is : (w s out : List ℕ) (a : Result Morpheme Refusal) → a ≡ morpheme_answer w s → decompose_if a out ≡ decompose_filled w s out
unfolding decompose_filled
decompose_is w s out a e = ap (λ (x : Result Morpheme Refusal). decompose_if x out) e

pub candidates_is : (w s out : List ℕ) (i : Result (Unit {0}) Refusal) (rows : List RootCandidate) → i ≡ inputs_of w s → rows ≡ roots_for w s → candidates_if i rows out ≡ candidates_filled w s out
unfolding candidates_filled
candidates_is w s out i rows e q = ap (λ (x : Result (Unit {0}) Refusal). candidates_if x rows out) e ∙ ap (λ (x : List RootCandidate). candidates_if (inputs_of w s) x out) q

pub readings_is : (w s out : List ℕ) (x : Result (Unit {0}) Refusal) (rows : List Classified) → x ≡ said_of w s → rows ≡ rows_given w s → readings_if x rows out ≡ readings_filled w s out
unfolding readings_filled
readings_is w s out x rows e q = ap (λ (y : Result (Unit {0}) Refusal). readings_if y rows out) e ∙ ap (λ (l : List Classified). readings_if (said_of w s) l out) q

-- both parts of what is stated of an answer, from one equation
pub both : {x y : Filled} {code : ℕ} {later : List ℕ} → x ≡ y → (code ≡ x.code) × (later ≡ x.buffer) → (code ≡ y.code) × (later ≡ y.buffer)
both e (p, q) = (p ∙ ap (λ (f : Filled). f.code) e, q ∙ ap (λ (f : Filled). f.buffer) e)

-- where nothing is stored: the code alone
pub same : {y : Filled} {code number : ℕ} {out : List ℕ} → record { code = number; buffer = out } ≡ y → code ≡ number → (code ≡ y.code) × (out ≡ y.buffer)
same e p = (p ∙ ap (λ (f : Filled). f.code) e, ap (λ (f : Filled). f.buffer) e)

-- `k` bytes stored behind the `n` at the front: `now` holds those, and `part` is what stands there then
pub stored_behind : (n k : ℕ) (front tail old now part : List ℕ) → now ≡ front ++ drop n old → length front ≡ n → part ≡ tail
    → put_mid n k now part ≡ (front ++ tail) ++ drop (n + k) old
stored_behind n k front tail old now part e f p =
    let t : take n now ≡ front = ap (take n) e ∙ take_at front (drop n old) n f in
    let u : drop n now ≡ drop n old = ap (drop n) e ∙ drop_at front (drop n old) n f in
    ap (λ (l : List ℕ). take n now ++ (l ++ drop k (drop n now))) p
    ∙ ap (λ (l : List ℕ). take n now ++ (tail ++ drop k l)) u
    ∙ ap (λ (l : List ℕ). take n now ++ (tail ++ l)) (drop-drop k n old)
    ∙ ap (λ (l : List ℕ). l ++ (tail ++ drop (n + k) old)) t
    ∙ sym (append_assoc front tail (drop (n + k) old))

-- six bytes behind the 22 of a reading
pub behind-front : (front tail old now part : List ℕ) → now ≡ front ++ drop 22 old → length front ≡ 22 → part ≡ tail
    → put_mid 22 6 now part ≡ (front ++ tail) ++ drop 28 old
behind-front = stored_behind 22 6

-- all elements of a list, one by one
cells-behind : (n i x : ℕ) (xs : List ℕ) → cells n (suc i) (x ∷ xs) ≡ cells n i xs
cells-behind zero i x xs = refl
cells-behind (suc n) i x xs = ap (λ (ys : List ℕ). get_or xs i 0 ∷ ys) (cells-behind n (suc i) x xs)

cells_all : (xs : List ℕ) → cells (length xs) 0 xs ≡ xs
cells_all [] = refl
cells_all (x ∷ xs) = ap (λ (ys : List ℕ). x ∷ ys) (cells-behind (length xs) 0 x xs ∙ cells_all xs)

pub cells_full : (n : ℕ) (xs : List ℕ) → length xs ≡ n → cells n 0 xs ≡ xs
cells_full n xs e = ap (λ (k : ℕ). cells k 0 xs) (sym e) ∙ cells_all xs

-- parts: five bytes, four more, and the 24 places for suffix rows behind them
pub parts-stored : (p : Parts) (more old now four part : List ℕ) → length more ≡ 4 → length p.suffixes ≡ 24
    → now ≡ (p.start ∷ p.end ∷ unwrap_or p.prefix 0 ∷ length (prefixes_of p.prefix) ∷ p.suffix_count ∷ []) ++ drop 5 old → four ≡ more → part ≡ p.suffixes
    → put_mid 9 24 (put_mid 5 4 now four) part ≡ parts_bytes p more ++ drop 33 old
parts-stored p more old now four part m l e f g =
    let front = p.start ∷ p.end ∷ unwrap_or p.prefix 0 ∷ length (prefixes_of p.prefix) ∷ p.suffix_count ∷ [] in
    let nine : length (front ++ more) ≡ 9 = omega (arith, m) in
    stored_behind 9 24 (front ++ more) p.suffixes old (put_mid 5 4 now four) part (stored_behind 5 4 front more old now four e refl f) nine g
    ∙ ap (λ (xs : List ℕ). ((front ++ more) ++ xs) ++ drop 33 old) (sym (cells_full 24 p.suffixes l))
