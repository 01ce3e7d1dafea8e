-- `find::find_progressive` meets its contract: the shape, the auxiliary, the search, and the search without the न. Assumes nothing.
use mathlib.Core.Path.{◌≡◌, sym, ◌∙◌, subst}
use mathlib.Core.Bool.{true}
use mathlib.Core.List.{List}
use Prim.Native.Nat.{ℕ, ◌≤◌, ◌-◌}
use native.Mathlib.Omega.{arith}
use lib.ListN.{length, take, drop, length-take}
use lib.Seq.{length-take-le}
use Rattle.runs.specs.Runs.{begins_with}
use Rattle.sheet.specs.Replies.{reply}
use Rattle.progressive.specs.Progressive.{letter_na, lemma_of, linked_of, stem_of, searched, is_shaped, progressive_of}
use Rattle.progressive.specs.Found.{LemmaAt}
use Rattle.progressive.proofs.Shapes.{shaped_fits, na_fits, front_rest}
use Rattle.progressive.proofs.Forms.{again, not_shaped, no_auxiliary, is_searched, none-form, first_found, goes_again, no_na, second_none, second_found}
use Rattle.progressive.proofs.find.find_progressive.Goals as goal
use Rattle.progressive.proofs.find.find_progressive.Lts.View.{up-Else-not-is_shaped, up-Else-not-is_verb}
use Rattle.progressive.proofs.find.find_progressive.Goals.{After-supported_infinitive-2, In_default, Else-not-begins_with, Else-not-is_shaped, Else-not-is_verb}

-- the word has the shape, so it is long enough
shape : (c : Else-not-is_shaped) → is_shaped c.args.word.now ≡ true
shape c = sym c.is_shaped.ensures ∙ c.if-not-is_shaped.false

long : (c : Else-not-is_verb) → 18 ≤ length c.args.word.now
long c = shaped_fits _ (shape (up-Else-not-is_shaped _ _ _ _ c.before.before.before.before.before.before.before))

-- रहनु is a verb, so the lemma is sought
asked : (c : Else-not-is_verb) →
    let a = c.args in
    progressive_of (reply a.sheet.now.bytes.now) a.word.now ≡ searched (reply a.sheet.now.bytes.now) (linked_of a.word.now) (stem_of a.word.now)
asked c =
    let a = c.args in
    is_searched a.sheet.now.bytes.now a.word.now (shape (up-Else-not-is_shaped _ _ _ _ c.before.before.before.before.before.before.before)) (sym c.is_verb.ensures ∙ c.if-not-is_verb.false)

-- the first search found nothing
left : (c : In_default) →
    let a = c.args in
    progressive_of (reply a.sheet.now.bytes.now) a.word.now ≡ again a.sheet.now.bytes.now a.word.now
left c =
    let a = c.args in
    goes_again a.sheet.now.bytes.now a.word.now (asked (up-Else-not-is_verb _ _ _ _ c.before.before.before)) (rw c.in_default.is at c.supported_infinitive.ensures)

-- the stem begins with न
na : (c : Else-not-begins_with) →
    let a = c.args in
    begins_with letter_na (stem_of a.word.now) ≡ true
na c = sym c.begins_with.ensures ∙ c.if-not-begins_with.false

stem_long : (c : Else-not-begins_with) →
    let a = c.args in
    3 ≤ length a.word.now - 18
stem_long c =
    let w = c.args.word.now in
    omega (arith, na_fits (stem_of w) (na c), length-take (length w - 18) w)

-- the second search is that of linked form and stem without the न
positive : (c : After-supported_infinitive-2) →
    let a = c.args in
    LemmaAt a.sheet.now.bytes.now (lemma_of (reply a.sheet.now.bytes.now) (drop 3 (linked_of a.word.now)) (drop 3 (stem_of a.word.now))) c.supported_infinitive-2.result
positive c =
    let a = c.args in
    let s = a.sheet.now.bytes.now in
    let w = a.word.now in
    let r = c.supported_infinitive-2.result in
    let k = subst (λ (l : List ℕ). LemmaAt s (lemma_of (reply s) l (take (length w - 18 - 3) (drop 3 w))) r) (front_rest 3 (length w - 15) w) c.supported_infinitive-2.ensures in
    subst (λ (l : List ℕ). LemmaAt s (lemma_of (reply s) (drop 3 (linked_of w)) l) r) (front_rest 3 (length w - 18) w) k

pub returns-then-not-is_shaped : goal.returns-then-not-is_shaped
returns-then-not-is_shaped c =
    let a = c.args in
    none-form a.sheet.now.bytes.now a.word.now (not_shaped a.sheet.now.bytes.now a.word.now (sym c.is_shaped.ensures ∙ c.if-not-is_shaped.true))

pub returns-then-not-is_verb : goal.returns-then-not-is_verb
returns-then-not-is_verb c =
    let a = c.args in
    none-form a.sheet.now.bytes.now a.word.now (no_auxiliary a.sheet.now.bytes.now a.word.now (shape (goal.at.returns-then-not-is_verb c).Else-not-is_shaped) (sym c.is_verb.ensures ∙ c.if-not-is_verb.true))

pub overflow_sub-main_end : goal.overflow_sub-main_end
overflow_sub-main_end c = let f = long (goal.at.overflow_sub-main_end c).Else-not-is_verb in omega arith

pub overflow_sub-stem_end : goal.overflow_sub-stem_end
overflow_sub-stem_end c = long (goal.at.overflow_sub-stem_end c).Else-not-is_verb

pub slice_bounds-supported_infinitive-end : goal.slice_bounds-supported_infinitive-end
slice_bounds-supported_infinitive-end c = let f = long (goal.at.slice_bounds-supported_infinitive-end c).Else-not-is_verb in sym (length-take-le _ _ (omega arith))

pub slice_bounds-supported_infinitive-end-2 : goal.slice_bounds-supported_infinitive-end-2
slice_bounds-supported_infinitive-end-2 c = let f = long (goal.at.slice_bounds-supported_infinitive-end-2 c).Else-not-is_verb in sym (length-take-le _ _ (omega arith))

pub returns-in-Some : goal.returns-in-Some
returns-in-Some c =
    let a = c.args in
    first_found a.sheet.now.bytes.now a.word.now (asked (goal.at.returns-in-Some c).Else-not-is_verb) _ (rw c.in-Some.is at c.supported_infinitive.ensures) _ c.form_with.ensures

pub slice_bounds-begins_with-end : goal.slice_bounds-begins_with-end
slice_bounds-begins_with-end c = let f = long (goal.at.slice_bounds-begins_with-end c).Else-not-is_verb in sym (length-take-le _ _ (omega arith))

pub returns-then-not-begins_with : goal.returns-then-not-begins_with
returns-then-not-begins_with c =
    let a = c.args in
    none-form a.sheet.now.bytes.now a.word.now (no_na a.sheet.now.bytes.now a.word.now (left (goal.at.returns-then-not-begins_with c).In_default) (sym c.begins_with.ensures ∙ c.if-not-begins_with.true))

pub slice_bounds-supported_infinitive-count : goal.slice_bounds-supported_infinitive-count
slice_bounds-supported_infinitive-count c = let f = stem_long (goal.at.slice_bounds-supported_infinitive-count c).Else-not-begins_with in omega arith

pub slice_bounds-supported_infinitive-start : goal.slice_bounds-supported_infinitive-start
slice_bounds-supported_infinitive-start c = let f = stem_long (goal.at.slice_bounds-supported_infinitive-start c).Else-not-begins_with in omega arith

pub slice_bounds-supported_infinitive-count-2 : goal.slice_bounds-supported_infinitive-count-2
slice_bounds-supported_infinitive-count-2 c = omega (arith, stem_long (goal.at.slice_bounds-supported_infinitive-count-2 c).Else-not-begins_with)

pub slice_bounds-supported_infinitive-start-2 : goal.slice_bounds-supported_infinitive-start-2
slice_bounds-supported_infinitive-start-2 c = omega (arith, stem_long (goal.at.slice_bounds-supported_infinitive-start-2 c).Else-not-begins_with)

pub returns-in_err-positive : goal.returns-in_err-positive
returns-in_err-positive c =
    let a = c.args in
    let s = a.sheet.now.bytes.now in
    let g = goal.at.returns-in_err-positive c in
    rw c.from_residual.ensures
    (none-form s a.word.now (second_none s a.word.now (left g.In_default) (na g.Else-not-begins_with) (rw c.in_err-positive.was at (positive g.After-supported_infinitive-2))))

pub returns : goal.returns
returns c =
    let a = c.args in
    let g = goal.at.returns c in
    second_found a.sheet.now.bytes.now a.word.now (left g.In_default) (na g.Else-not-begins_with) _
    (rw c.in_ok-positive.was at (positive g.After-supported_infinitive-2)) _ c.form_with-2.ensures
