-- How large the places of an answer are: an accepted word has at most 192 bytes, an accepted sheet at most 65,536, a lemma's name at
-- most 210, and a faulty line begins inside the sheet. So each place fits its bits of a code. The proofs of the exported functions cite it. Assumes nothing.
use Rattle.std.specs.Prelude.{Err, None, Ok, Option, Result, Some, unwrap_or}
use Rattle.origin.specs.declared.OriginDecision.{OriginDecision}
use Prim.Native.Nat.{ℕ, ◌+◌, ◌≤◌, ◌<◌}
use mathlib.Core.Path.{◌≡◌, refl, sym, ap, subst, ◌∙◌}
use mathlib.Core.Bool.{Bool, true, false, not, ◌&&◌}
use mathlib.Core.List.{List, [], ◌∷◌}
use lib.ListN.{length, drop, get_or}
use lib.Dec.{ltb, leb}
use native.Mathlib.Omega.{arith}
use borrow.Author.Tests.{leb-true}
use Rattle.runs.specs.Runs.{pick}
use Rattle.runs.proofs.Begins.{and_left, and_right}
use Rattle.text.specs.Utf8.{is_utf8}
use Rattle.text.specs.Names.{holds_forbidden}
use Rattle.text.specs.Word.{word_limit}
use Rattle.sheet.specs.Forms.{is_name, key_of}
use Rattle.sheet.specs.Limits.{sheet_limit}
use Rattle.sheet.specs.Lines.{sheet_check, starts_of, line_at}
use Rattle.sheet.specs.Replies.{reply}
use Rattle.sheet.specs.Inputs.{inputs_of, Placed}
use Rattle.refusals.specs.declared.Refusal.{Refusal}
use Rattle.sheet.proofs.Refusals.{accepted-each, refused-placed}
use Rattle.lookup.specs.Search.{place_of}
use Rattle.lookup.specs.Answers.{name_spot}
use Rattle.sheet.proofs.Accepted.{accepted-short, accepted_up, up_member}
use Rattle.sheet.proofs.Forms.{form-named}
use Rattle.lookup.proofs.Halves.{place_asks}
use Rattle.progressive.specs.declared.find.Progressive.{Progressive}
use Rattle.progressive.specs.Progressive.{Outcome, no, yes, progressive_of}
use Rattle.progressive.specs.Found.{form_of}
use Rattle.progressive.specs.Answers.{answer_if, answer_of, Lies, Analyzed, supported_if, supported_of}
use Rattle.ranking.specs.Lists.{Rows, rows, over}
use Rattle.paths.specs.Visits.{visits_of}
use Rattle.paths.proofs.Promises.{few_visits}
use Rattle.analysis.specs.Answers.{collected, said_by, said_of, rows_given, is_some, has_by, has_of, visits_in, visits_answer}
use Rattle.listing.specs.Texts.{listing_text, listing_room}
use Rattle.writing.specs.Placed.{written_of}
use Rattle.listing.specs.Printed.{said_text, readings_text, outcome_by, outcome_of}
use Rattle.refusals.specs.Refusals.{number, numbers_of, Before}
use Rattle.refusals.specs.declared.Refusal.TheVariants.{OutputTooShort}
use Rattle.refusals.proofs.Outputs.{number_small}
use Rattle.roots.specs.Answers.{known_if, known_answer, roots_for}
use Rattle.exports.specs.Codes.{PlacedIn, Small}
use Rattle.decomposition.proofs.Short.{word-short}
use Rattle.origin.specs.Answers.{decision_if, decision_answer}

-- the number of a refusal and its place, as the code hands them on
pub number-placed : (r : Refusal) (n at : ℕ) → n ∷ at ∷ [] ≡ numbers_of r → Placed r → (n < 256) × (at < sheet_limit)
number-placed r n at e p =
    let m = number_small r in
    let k : n ≡ number r = ap (λ (l : List ℕ). get_or l 0 0) e in
    let q : Before sheet_limit (at ∷ []) = subst (Before sheet_limit) (sym (ap (λ (l : List ℕ). drop 1 l) e)) p in
    (omega (arith, m), q.0)

is_name_short : (x : List ℕ) → is_name x ≡ true → length x ≤ 210
unfolding is_name
is_name_short x h =
    let a = and_left (ltb 0 (length x) && leb (length x) 210 && is_utf8 x) (not (holds_forbidden x)) h in
    let b = and_left (ltb 0 (length x) && leb (length x) 210) (is_utf8 x) a in
    leb-true (length x) 210 (and_right (ltb 0 (length x)) (leb (length x) 210) b)

-- a name that the sheet has a `w` line for is the name of a form
name-short : (s name : List ℕ) (f : Option ℕ) → sheet_check s ≡ Ok tt → f ≡ place_of s 0x77 name → (unwrap_or (name_spot s f) (record { at = 0; len = 0 })).len ≤ 210
unfolding place_of
name-short s name None h e = omega arith
name-short s name (Some at) h e =
    let a = place_asks s (key_of 0x77 name) (starts_of s) at (sym e) in
    is_name_short (line_at s at).name (form-named (drop at s) (up_member s [] (starts_of s) at (accepted_up s h) a.0))

-- the lemma's name of a form, if there is one, is short
abbrev ShortLemma : Option Progressive → Type 0
ShortLemma None = Unit {0}
ShortLemma (Some f) = f.lemma_len ≤ 210

lemma-short : (w s : List ℕ) (o : Outcome) → sheet_check s ≡ Ok tt → ShortLemma (form_of s w o)
lemma-short w s no h = tt
lemma-short w s (yes name n) h = name-short s name (place_of s 0x77 name) h refl

-- what an answer about progressive forms lets be said of word, sheet and faulty line
abbrev pub SmallForm : List ℕ → List ℕ → Result (Option Progressive) Refusal → Type 0
SmallForm w s (Err r) = Placed r
SmallForm w s (Ok form) = (length w ≤ word_limit) × (length s ≤ sheet_limit) × ShortLemma form

pub answer_small : (w s : List ℕ) → SmallForm w s (answer_of w s)
unfolding answer_of
answer_small w s = by (inputs_of w s) refl
  where
    by : (i : Result (Unit {0}) Refusal) → inputs_of w s ≡ i → SmallForm w s (answer_if i w s)
    by (Ok _) e =
        let k = accepted-each w s e in
        (word-short w k.0, accepted-short s k.1, lemma-short w s (progressive_of (reply s) w) k.1)
    by (Err r) e = refused-placed w s r e

-- the same of what the analysis gave, r, which turned out to be a
pub analyzed_small : (w s : List ℕ) (r a : Result (Option Progressive) Refusal) → Analyzed w s r → r ≡ a → SmallForm w s a
analyzed_small w s r a k e = subst (SmallForm w s) (sym k.settled ∙ e) (answer_small w s)

-- the places of a form that was given
pub form_small : (w s : List ℕ) (r : Result (Option Progressive) Refusal) (f : Progressive) → Analyzed w s r → r ≡ Ok (Some f) →
    (f.main_end ≤ word_limit) × (f.lemma_len ≤ 210) × (f.lemma_at + f.lemma_len ≤ sheet_limit)
form_small w s r f k e =
    let n = analyzed_small w s r (Ok (Some f)) k e in
    let l = subst (Lies w s) e k.lies in
    (omega (arith, n, l), n.2, omega (arith, n, l))

-- the same of a refusal in the other answers
supported-placed : (w s : List ℕ) → PlacedIn (supported_of w s)
unfolding supported_of
supported-placed w s = by (inputs_of w s) refl
  where
    by : (i : Result (Unit {0}) Refusal) → inputs_of w s ≡ i → PlacedIn (supported_if i w s)
    by (Ok _) e = tt
    by (Err r) e = refused-placed w s r e

-- the same of an answer d that is this one
pub supported-told : (w s : List ℕ) (d : Result Bool Refusal) → d ≡ supported_of w s → PlacedIn d
supported-told w s d e = subst PlacedIn (sym e) (supported-placed w s)

decision-placed : (w s : List ℕ) → PlacedIn (decision_answer w s)
unfolding decision_answer
decision-placed w s = by (inputs_of w s) refl
  where
    by : (i : Result (Unit {0}) Refusal) → inputs_of w s ≡ i → PlacedIn (decision_if i w s)
    by (Ok _) e = tt
    by (Err r) e = refused-placed w s r e

pub decision-refused : (w s : List ℕ) (d : Result OriginDecision Refusal) (r : Refusal) → d ≡ decision_answer w s → d ≡ Err r → Placed r
decision-refused w s d r e f = subst PlacedIn (sym e ∙ f) (decision-placed w s)

has-placed : (w s : List ℕ) → PlacedIn (has_of w s)
unfolding has_of said_of
has-placed w s = by (inputs_of w s) refl (collected w s)
  where
    by : (i : Result (Unit {0}) Refusal) → inputs_of w s ≡ i → (c : Rows) → PlacedIn (has_by (said_by i c) (is_some (rows_given w s)))
    by (Ok _) e (rows rs) = tt
    by (Ok _) e over = tt
    by (Err r) e c = refused-placed w s r e

pub has-told : (w s : List ℕ) (d : Result Bool Refusal) → d ≡ has_of w s → PlacedIn d
has-told w s d e = subst PlacedIn (sym e) (has-placed w s)

known_placed : (w s : List ℕ) → PlacedIn (known_answer w s)
unfolding known_answer
known_placed w s = by (inputs_of w s) refl
  where
    by : (i : Result (Unit {0}) Refusal) → inputs_of w s ≡ i → PlacedIn (known_if i (roots_for w s))
    by (Ok _) e = tt
    by (Err r) e = refused-placed w s r e

pub known_told : (w s : List ℕ) (d : Result Bool Refusal) → d ≡ known_answer w s → PlacedIn d
known_told w s d e = subst PlacedIn (sym e) (known_placed w s)

-- the same of the pieces visited, which are at most 5,000
visits_small : (w s : List ℕ) → Small (visits_answer w s)
unfolding visits_answer
visits_small w s = by (inputs_of w s) refl
  where
    by : (i : Result (Unit {0}) Refusal) → inputs_of w s ≡ i → Small (visits_in i (visits_of (reply s) w))
    by (Ok _) e = let n = few_visits (reply s) w in omega (arith, n)
    by (Err r) e = refused-placed w s r e

pub visits_told : (w s : List ℕ) (d : Result ℕ Refusal) → d ≡ visits_answer w s → Small d
visits_told w s d e = subst Small (sym e) (visits_small w s)

-- the same of what is said of a list of readings; where it is given, the word is short
abbrev PlacedSaid : List ℕ → Result (Unit {0}) Refusal → Type 0
PlacedSaid w (Ok _) = length w ≤ word_limit
PlacedSaid w (Err r) = Placed r

said-placed : (w s : List ℕ) → PlacedSaid w (said_of w s)
unfolding said_of
said-placed w s = by (inputs_of w s) refl (collected w s)
  where
    by : (i : Result (Unit {0}) Refusal) → inputs_of w s ≡ i → (c : Rows) → PlacedSaid w (said_by i c)
    by (Ok _) e (rows rs) = word-short w (accepted-each w s e).0
    by (Ok _) e over = tt
    by (Err r) e c = refused-placed w s r e

pub said_small : (w s : List ℕ) (d x : Result (Unit {0}) Refusal) → d ≡ said_of w s → d ≡ x → PlacedSaid w x
said_small w s d x e f = subst (PlacedSaid w) (sym e ∙ f) (said-placed w s)

-- the same of what writing the list as a text gave: its text has no more bytes than the longest list
outcome-placed : (w s out : List ℕ) → length (readings_text w s) ≤ listing_room → Small (outcome_of w s out)
unfolding outcome_of readings_text
outcome-placed w s out h = by (said_of w s) (said-placed w s) h
  where
    to : (b : Bool) (n : ℕ) → n ≤ listing_room → Small (pick b (Ok n) (Err OutputTooShort))
    to true n h = omega arith
    to false n h = tt

    by : (x : Result (Unit {0}) Refusal) → PlacedSaid w x → length (said_text w x (rows_given w s)) ≤ listing_room → Small (outcome_by x (written_of (listing_text w (rows_given w s)) out))
    by (Ok _) p n = to (leb (length (listing_text w (rows_given w s))) (length out)) (length (listing_text w (rows_given w s))) n
    by (Err r) p n = p

pub outcome_small : (w s out : List ℕ) (r : Result ℕ Refusal) → r ≡ outcome_of w s out → length (readings_text w s) ≤ listing_room → Small r
outcome_small w s out r e h = subst Small (sym e) (outcome-placed w s out h)

-- what is said of word and sheet, i, turned out to be the refusal r
pub inputs_refused : (w s : List ℕ) (i : Result (Unit {0}) Refusal) (r : Refusal) → i ≡ inputs_of w s → i ≡ Err r → Placed r
inputs_refused w s i r e f = refused-placed w s r (sym e ∙ f)
