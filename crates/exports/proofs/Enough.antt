-- Buffers that are always long enough: 1,792 bytes for the readings of a word, 528 for its root candidates, 37,386 for the list of its
-- readings as a text. Assumes nothing.
use Rattle.std.specs.Prelude.{Err, Ok, Result}
use Prim.Native.Nat.{ℕ, ◌*◌, ◌≤◌, ◌<◌}
use native.Mathlib.Omega.{arith}
use native.Mathlib.Nat.{suc-mul}
use mathlib.Core.Path.{◌≡◌, refl, sym, ap, subst, ◌∙◌}
use mathlib.Core.Bool.{true}
use mathlib.Core.List.{List, [], ◌∷◌, ◌++◌, map, reverse, Memᴰ}
use lib.ListN.{length, drop, replicate, length-append, length-replicate, length-map}
use lib.Seq.{length-take-le}
use lib.Dec.{leb}
use borrow.Author.Tests.{le-leb}
use Rattle.sheet.specs.Inputs.{inputs_of}
use Rattle.sheet.specs.Replies.{Ask, reply}
use Rattle.refusals.specs.declared.Refusal.{Refusal}
use Rattle.refusals.specs.Refusals.{number, places, output_by}
use Rattle.refusals.specs.declared.Refusal.TheVariants.{OutputTooShort}
use Rattle.refusals.proofs.Outputs as outputs
use Rattle.sheet.proofs.Refusals.{accepted-each}
use Rattle.decomposition.proofs.Short.{word-short}
use Rattle.ranking.specs.Lists.{list_limit, Rows}
use Rattle.ranking.specs.declared.Classified.{Classified}
use Rattle.paths.specs.Chains.{Route}
use Rattle.paths.specs.Counted.{AtLeast}
use Rattle.paths.specs.Readings.{IsReading, reading_of, row_of, filled, segment_of}
use Rattle.ranking.specs.Stored.{no_segment}
use Rattle.paths.proofs.Promises.{Listed}
use Rattle.roots.specs.Answers.{roots_for}
use Rattle.roots.proofs.Bounded.{roots_few}
use Rattle.analysis.specs.Answers.{collected, said_by, said_of, rows_given, said_numbers}
use Rattle.analysis.proofs.Promises.{rows_few, seven_exactly, all_listed, said-below}
use Rattle.listing.specs.Texts.{row_text, row_texts, listing_text, row_room, listing_room}
use Rattle.writing.specs.Placed.{written_of}
use Rattle.listing.specs.Printed.{outcome_by, outcome_of, left_of}
use Rattle.listing.proofs.Room.{reading_size, row-size, listing-size}
use Rattle.exports.specs.Codes.{coded, answered, refusal_code, written_code}
use Rattle.exports.specs.Rows.{row_bytes, row_width, each, rows_filled, readings_if, readings_filled}
use Rattle.exports.specs.Filled.{candidate_bytes, candidates_if, candidates_filled}
use Rattle.exports.proofs.Widths.{rows_long}
use Rattle.exports.proofs.Put.{both}

-- a list that is given is stored, all of it
pub readings_enough : (w s out : List ℕ) → row_width * list_limit ≤ length out → said_of w s ≡ Ok tt →
    (answered (length (rows_given w s)) ≡ (readings_filled w s out).code)
    × (each row_bytes (rows_given w s) ++ drop (row_width * length (rows_given w s)) out ≡ (readings_filled w s out).buffer)
unfolding readings_filled
readings_enough w s out h e =
    let n = rows_few w s in
    let f : rows_filled row_width row_bytes (rows_given w s) out ≡ readings_if (said_of w s) (rows_given w s) out = ap (λ (x : Result (Unit {0}) Refusal). readings_if x (rows_given w s) out) (sym e) in
    both f (rows_long row_bytes row_width (length (rows_given w s)) (rows_given w s) out refl _ (omega arith) refl)

pub candidates_enough : (w s out : List ℕ) → 528 ≤ length out → inputs_of w s ≡ Ok tt →
    (answered (length (roots_for w s)) ≡ (candidates_filled w s out).code)
    × (each candidate_bytes (roots_for w s) ++ drop (33 * length (roots_for w s)) out ≡ (candidates_filled w s out).buffer)
unfolding candidates_filled
candidates_enough w s out h e =
    let n = roots_few w s in
    let f : rows_filled 33 candidate_bytes (roots_for w s) out ≡ candidates_if (inputs_of w s) (roots_for w s) out = ap (λ (x : Result (Unit {0}) Refusal). candidates_if x (roots_for w s) out) (sym e) in
    both f (rows_long candidate_bytes 33 (length (roots_for w s)) (roots_for w s) out refl _ (omega arith) refl)

-- where a list is given, word and sheet are accepted
listed-accepted : (w s : List ℕ) → said_of w s ≡ Ok tt → inputs_of w s ≡ Ok tt
unfolding said_of
listed-accepted w s e = by (inputs_of w s) (collected w s) e
  where
    by : (i : Result (Unit {0}) Refusal) (c : Rows) → said_by i c ≡ Ok tt → i ≡ Ok tt
    by (Ok _) c e = refl
    by (Err r) c e = cc

filled_long : {A : Type 0} (n : ℕ) (d : A) (xs : List A) → length (filled n d xs) ≡ n
filled_long n d xs =
    let a = length-append xs (replicate n d) in
    let r = length-replicate n d in
    length-take-le n (xs ++ replicate n d) (omega arith)

-- a listed reading has two places for prefixes and four for segments
pub two_prefixes : (ask : Ask) (w : List ℕ) (p : Route) → length (reading_of ask w p).prefixes ≡ 2
unfolding reading_of
two_prefixes ask w p = filled_long 2 0 p.prefix_rows

pub four_segments : (ask : Ask) (w : List ℕ) (p : Route) → length (reading_of ask w p).segments ≡ 4
unfolding reading_of
four_segments ask w p = filled_long 4 no_segment (reverse (map (segment_of ask) p.strips))

-- each row of a list has at most `row_room` bytes
path_size : (ask : Ask) (w : List ℕ) (p : Route) → length w ≤ 192 → (reading_of ask w p).score ≤ 612 → length (row_text w (row_of ask w p)) ≤ row_room
unfolding row_of
path_size ask w p h c = row-size w (row_of ask w p) (reading_size w (reading_of ask w p) h (two_prefixes ask w p) (four_segments ask w p) (omega arith))

rows-size : (ask : Ask) (w : List ℕ) (ps : List Route) → length w ≤ 192 → ((p : Route) → Memᴰ p ps → (reading_of ask w p).score ≤ 612)
    → length (row_texts w (map (row_of ask w) ps)) ≤ length ps * row_room
rows-size ask w [] h k = omega arith
rows-size ask w (p ∷ ps) h k =
    let a = path_size ask w p h (k p (Memᴰ.head refl)) in
    let r = rows-size ask w ps h (λ q m. k q (Memᴰ.tail m)) in
    let l = length-append (row_text w (row_of ask w p)) (row_texts w (map (row_of ask w) ps)) in
    let m = suc-mul (length ps) row_room in
    omega arith

-- of a list that is given, the paths whose readings its rows are, and how long the word is
pub given_paths : (w s : List ℕ) → said_of w s ≡ Ok tt → (length w ≤ 192) × Listed (reply s) w (rows_given w s)
given_paths w s e =
    let a = accepted-each w s (listed-accepted w s e) in
    let few : AtLeast 65 (IsReading (reply s) w) → ⊥ =
    (λ m. let z : ◌≡◌ {A = ℕ} 0 1 = ap (length {A = ℕ}) (ap said_numbers (sym e) ∙ (seven_exactly w s a.0 a.1).1 m) in absurd (omega arith)) in
    (word-short w a.0, (all_listed w s a.0 a.1 few).1)

-- the text of a list that is given has at most 37,386 bytes
pub listing_bounded : (w s : List ℕ) → said_of w s ≡ Ok tt → length (listing_text w (rows_given w s)) ≤ listing_room
listing_bounded w s e =
    let g = given_paths w s e in
    by (rows_given w s) g.0 g.1 (rows_few w s)
  where
    by : (rs : List Classified) → length w ≤ 192 → Listed (reply s) w rs → length rs ≤ 64 → length (listing_text w rs) ≤ listing_room
    by rs h l f =
        let n : length rs ≡ length l.paths = ap (length {A = Classified}) (sym l.rows_are) ∙ length-map l.paths (row_of (reply s) w) in
        let t : length (row_texts w (map (row_of (reply s) w) l.paths)) ≤ length l.paths * row_room = rows-size (reply s) w l.paths h (l.scores h) in
        let u : length (row_texts w rs) ≤ length l.paths * row_room = subst (λ (xs : List Classified). length (row_texts w xs) ≤ length l.paths * row_room) l.rows_are t in
        listing-size w rs (length l.paths) (omega arith) (sym n) u

-- so in a buffer of so many bytes the text stands whole
pub listing-whole : (w s out : List ℕ) → listing_room ≤ length out → said_of w s ≡ Ok tt →
    (answered (length (listing_text w (rows_given w s))) ≡ written_code (outcome_of w s out))
    × (listing_text w (rows_given w s) ++ drop (length (listing_text w (rows_given w s))) out ≡ left_of w s out)
unfolding outcome_of left_of
listing-whole w s out h e =
    let text = listing_text w (rows_given w s) in
    let m = listing_bounded w s e in
    let t : leb (length text) (length out) ≡ true = le-leb (length text) (length out) (omega arith) in
    let o : Ok (length text) ≡ outcome_by (said_of w s) (written_of text out) = outputs.is_written (length text) (length out) (length text) refl (omega arith)
    ∙ ap (λ (x : Result (Unit {0}) Refusal). outcome_by x (written_of text out)) (sym e) in
    (ap written_code o, ap (λ (x : Result ℕ Refusal). output_by x text out) o)

-- and the code of `yunthirel_listing` is never 8
pub listing_enough : (w s out : List ℕ) → listing_room ≤ length out → written_code (outcome_of w s out) ≡ refusal_code OutputTooShort → ⊥
unfolding outcome_of
listing_enough w s out h e = by (said_of w s) (λ g. (listing-whole w s out h g).0 ∙ e) (said-below w s) e
  where
    not_eight : (n : ℕ) (places : List ℕ) → n < 8 → coded (n ∷ places) ≡ 8 → ⊥
    not_eight n [] h e = absurd (omega arith)
    not_eight n (at ∷ more) h e = absurd (omega arith)

    by : (x : Result (Unit {0}) Refusal) → (x ≡ Ok tt → answered (length (listing_text w (rows_given w s))) ≡ 8) → ((r : Refusal) → x ≡ Err r → number r < 8)
        → written_code (outcome_by x (written_of (listing_text w (rows_given w s)) out)) ≡ 8 → ⊥
    by (Ok _) k b e = let z = k refl in absurd (omega arith)
    by (Err r) k b e = not_eight (number r) (places r) (b r refl) e
