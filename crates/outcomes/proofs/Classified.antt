-- Origin, source and confidence of a listed reading are those that `classify_with_provenance` gives for its root and the same sheet: the
-- root of an accepted word's reading is itself an accepted word. Assumes nothing.
use Rattle.refusals.specs.declared.Refusal.{Refusal}
use Rattle.std.specs.Prelude.{Err, Ok, Result}
use Prim.Native.Nat.{ℕ, ◌≤◌}
use native.Mathlib.Omega.{arith}
use mathlib.Core.Path.{◌≡◌, refl, sym, ap, subst, ◌∙◌}
use mathlib.Core.Bool.{Bool, true, false, not}
use mathlib.Core.List.{List, [], ◌∷◌, ◌++◌, map, Memᴰ}
use lib.ListN.{length, length-append}
use lib.Dec.{ltb}
use borrow.Author.Tests.{ltb-false, le-ltb}
use Rattle.runs.specs.Runs.{pick}
use Rattle.text.specs.Utf8.{is_utf8}
use Rattle.text.specs.Names.{forbidden, holds_forbidden}
use Rattle.text.specs.Word.{word_limit, word_check}
use Rattle.text.specs.declared.word.WordFault.TheVariants as words
use Rattle.sheet.specs.Lines.{sheet_check}
use Rattle.sheet.specs.Inputs.{inputs_of}
use Rattle.sheet.specs.Replies.{reply}
use Rattle.sheet.proofs.Refusals.{accepted-both}
use Rattle.origin.specs.Decisions.{decided}
use Rattle.origin.specs.Answers.{decision_if, decision_answer}
use Rattle.ranking.specs.Rank.{root_text}
use Rattle.ranking.specs.declared.Classified.{Classified}
use Rattle.paths.specs.Chains.{Route, PathOf}
use Rattle.paths.specs.Counted.{AtLeast}
use Rattle.paths.specs.Questions.{Part}
use Rattle.paths.specs.Readings.{IsReading, reading_of, row_of}
use Rattle.paths.specs.Recomposed.{All}
use Rattle.paths.proofs.Origins.{root-part}
use Rattle.analysis.specs.Answers.{said_of, rows_given, said_numbers}
use Rattle.analysis.proofs.Promises.{seven_exactly, all_listed}

-- Parts of accepted words.

or_false : (a b : Bool) → pick a true b ≡ false → (a ≡ false) × (b ≡ false)
or_false true b e = let z : ◌≡◌ {A = ℕ} 0 1 = cc in absurd (omega arith)
or_false false b e = (refl, e)

held-behind : (a b : List ℕ) → holds_forbidden (a ++ b) ≡ false → holds_forbidden b ≡ false
unfolding holds_forbidden
held-behind [] b e = e
held-behind (x ∷ a) b e = held-behind a b (or_false (forbidden x) (holds_forbidden (a ++ b)) e).1

held-before : (a b : List ℕ) → holds_forbidden (a ++ b) ≡ false → holds_forbidden a ≡ false
unfolding holds_forbidden
held-before [] b e = refl
held-before (x ∷ a) b e =
    let p = or_false (forbidden x) (holds_forbidden (a ++ b)) e in
    rw p.0 (held-before a b p.1)

accepted-parts : (w : List ℕ) → word_check w ≡ Ok tt → (length w ≤ word_limit) × (holds_forbidden w ≡ false)
unfolding word_check
accepted-parts w = by (ltb word_limit (length w)) (is_utf8 w) (holds_forbidden w) refl refl
  where
    by : (a b c : Bool) → ltb word_limit (length w) ≡ a → holds_forbidden w ≡ c
        → pick a (Err words.TooLong) (pick (not b) (Err words.NotUtf8) (pick c (Err words.Forbidden) (Ok (tt {0})))) ≡ Ok (tt {0}) → (length w ≤ word_limit) × (holds_forbidden w ≡ false)
    by true b c p q e = let z : ◌≡◌ {A = ℕ} 0 1 = cc in absurd (omega arith)
    by false false c p q e = let z : ◌≡◌ {A = ℕ} 0 1 = cc in absurd (omega arith)
    by false true true p q e = let z : ◌≡◌ {A = ℕ} 0 1 = cc in absurd (omega arith)
    by false true false p q e = (ltb-false word_limit (length w) p, q)

part-accepted : (w p : List ℕ) → word_check w ≡ Ok tt → Part w p → word_check p ≡ Ok tt
unfolding word_check
part-accepted w p a t =
    let k = accepted-parts w a in
    let m = ap (length {A = ℕ}) t.joined ∙ length-append t.front (p ++ t.back) in
    let n = length-append p t.back in
    let f : holds_forbidden p ≡ false = held-before p t.back (held-behind t.front (p ++ t.back) (ap holds_forbidden (sym t.joined) ∙ k.1)) in
    rw (le-ltb word_limit (length p) (let h = k.0 in omega arith), t.part_utf8, f)

-- what the entry gives for a root
abbrev Told : List ℕ → List ℕ → Classified → Type 0
Told w s r = decision_answer (root_text w r.reading) s ≡ Ok (decided r.origin r.source r.confidence)

module _ (w s : List ℕ) (aw : word_check w ≡ Ok tt) (ah : sheet_check s ≡ Ok tt) (utf8 : is_utf8 w ≡ true) where
  root_told : (p : Route) → PathOf (reply s) w p → root_text w (reading_of (reply s) w p) ≡ p.root → Told w s (row_of (reply s) w p)
  unfolding decision_answer row_of
  root_told p a e =
      ap (λ (root : List ℕ). decision_if (inputs_of root s) root s) e
      ∙ ap (λ (i : Result (Unit {0}) Refusal). decision_if i p.root s) (accepted-both p.root s (part-accepted w p.root aw (root-part w (reply s) p utf8 a)) ah)

  paths_told : (ps : List Route) → ((p : Route) → Memᴰ p ps → PathOf (reply s) w p × (root_text w (reading_of (reply s) w p) ≡ p.root))
      → All (Told w s) (map (row_of (reply s) w) ps)
  paths_told [] h = tt
  paths_told (p ∷ ps) h = let a = h p (Memᴰ.head refl) in (root_told p a.0 a.1, paths_told ps (λ q m. h q (Memᴰ.tail m)))

  -- every row of a list that is given has what `classify_with_provenance` gives for its root
  pub rows_told : said_of w s ≡ Ok tt → All (Told w s) (rows_given w s)
  rows_told e =
      let few : AtLeast 65 (IsReading (reply s) w) → ⊥ =
      (λ m. let z : ◌≡◌ {A = ℕ} 0 1 = ap (length {A = ℕ}) (ap said_numbers (sym e) ∙ (seven_exactly w s aw ah).1 m) in absurd (omega arith)) in
      let l = (all_listed w s aw ah few).1 in
      subst (All (Told w s)) l.rows_are (paths_told l.paths (λ p m. ((l.each p).0 m, (l.texts p m).1)))
