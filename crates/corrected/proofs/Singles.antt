-- What the reader's step tells of a given line: whether it is a single form, and its key. The proofs of `place` cite these. Assumes nothing.
use Rattle.std.specs.Prelude.{Err, Ok, Result, Option, Some, None}
use Prim.Native.Nat.{ℕ, ◌+◌, ◌-◌, ◌≤◌, ◌<◌}
use native.Mathlib.Omega.{arith}
use mathlib.Core.Path.{◌≡◌, refl, sym, ap, subst, ◌∙◌}
use lib.Dec.{leb}
use borrow.Author.Tests.{leb-true}
use mathlib.Core.Bool.{Bool, true, false}
use mathlib.Core.List.{List, [], ◌++◌, append-nil}
use lib.ListN.{length, take, drop, drop_of_length-le}
use Rattle.runs.specs.Runs.{pick, same_text}
use Rattle.runs.proofs.Begins.{and_left, and_right}
use Rattle.runs.proofs.Ordered.{same_refl, same_true}
use Rattle.runs.proofs.Ends.{same_lengths}
use Rattle.sheet.specs.Forms.{entry_of, written, is_form, key, key_of}
use Rattle.sheet.specs.Steps.{name_end, value_end}
use Rattle.sheet.proofs.Forms.{written-length, form_shape, line-fits, behind}
use Rattle.sheet.specs.Walks.{form_reached, reached}
use Rattle.sheet.specs.declared.walk.Walk.{Walk}
use Rattle.sheet.specs.declared.line.Form.{Form}
use Rattle.sheet.specs.declared.line.LineFault.{LineFault}
use Rattle.sheet.specs.declared.line.LineFault.TheVariants.{NotAbove, NoForm}
use Rattle.sheet.proofs.Walks.{key-told, at_first}
use Rattle.refusals.specs.declared.Refusal.TheVariants.{NoSingleForm}
use Rattle.corrected.specs.Sets.{is_single}
use Rattle.corrected.specs.Answers.{of_line}
use Rattle.corrected.specs.Spans.{given_of}
use Rattle.corrected.specs.declared.place.Given.{Given}

-- what the walk's step tells of a line that is the first of a sheet
abbrev pub ToldFirst : List ℕ → Result (Option (Form Walk)) LineFault → Type 0
ToldFirst line (Ok None) = length line ≤ 0
ToldFirst line (Err NoForm) = is_form line ≡ false
ToldFirst line (Err NotAbove) = ⊥
ToldFirst line (Ok (Some form)) = (is_form line ≡ true) × (form ≡ form_reached line at_first)

pub first-told : (line : List ℕ) (r : Result (Option (Form Walk)) LineFault) → r ≡ reached line at_first → ToldFirst line r
unfolding reached
first-told line r q = subst (ToldFirst line) (sym q) (by (leb (length line) 0) (is_form line) refl refl)
  where
    by : (b c : Bool) → leb (length line) 0 ≡ b → is_form line ≡ c
        → ToldFirst line (pick b (Ok None) (pick c (Ok (Some (form_reached line at_first))) (Err NoForm)))
    by true c p r = leb-true _ _ p
    by false true p r = (r, refl)
    by false false p r = r

-- a given line by its letter and where its name ends
abbrev pub given : ℕ → ℕ → Given
given l m = record { letter = l; name_end = m }

module _ (line : List ℕ) where
  -- the length of its form
  form-length : is_form line ≡ true → value_end line 0 + 3 ≡ length (written (entry_of line))
  form-length f = omega (arith, written-length (entry_of line))

  pub no_single : is_form line ≡ false → is_single line ≡ false
  unfolding is_single
  no_single f = rw f

  pub single_form : is_single line ≡ true → is_form line ≡ true
  unfolding is_single
  single_form h = and_left _ _ h

  pub single_written : is_single line ≡ true → written (entry_of line) ≡ line
  unfolding is_single
  single_written h = same_true (written (entry_of line)) line (and_right (is_form line) _ h)

  longer : is_form line ≡ true → value_end line 0 + 3 < length line → is_single line ≡ false
  unfolding is_single
  longer f h =
      let n : same_text (written (entry_of line)) line ≡ false = same_lengths (written (entry_of line)) line (λ z. let l = form-length f in omega arith) in
      rw (f, n)

  whole : is_form line ≡ true → length line ≤ value_end line 0 + 3 → is_single line ≡ true
  unfolding is_single
  whole f h =
      let l = form-length f in
      let i : length line ≤ length (written (entry_of line)) = omega arith in
      let d : behind line ≡ [] = drop_of_length-le line i in
      let w : line ≡ written (entry_of line) = form_shape line f ∙ ap (λ (x : List ℕ). written (entry_of line) ++ x) d ∙ append-nil (written (entry_of line)) in
      let n : same_text (written (entry_of line)) line ≡ true = ap (λ (x : List ℕ). same_text x line) (sym w) ∙ same_refl line in
      rw (f, n)

  pub empty_given : length line ≤ 0 → None ≡ given_of line
  unfolding given_of
  empty_given h = by (is_form line) refl
    where
      by : (b : Bool) → is_form line ≡ b → None ≡ pick (is_single line) (Some (given (entry_of line).letter (3 + length (entry_of line).name))) None
      by true f = absurd (omega (arith, line-fits line 0 f))
      by false f = rw (no_single f)

  pub none-given : is_form line ≡ false → None ≡ given_of line
  unfolding given_of
  none-given f = rw (no_single f)

  -- where no form is reached
  pub none_reached : (r : Result (Option (Form Walk)) LineFault) → r ≡ reached line at_first → ((form : Form Walk) → r ≡ Ok (Some form) → ⊥) → None ≡ given_of line
  none_reached (Ok None) e n = empty_given (first-told line (Ok None) e)
  none_reached (Err NoForm) e n = none-given (first-told line (Err NoForm) e)
  none_reached (Err NotAbove) e n = absurd (first-told line (Err NotAbove) e)
  none_reached (Ok (Some form)) e n = absurd (n form refl)

  pub more_given : is_form line ≡ true → (n : ℕ) → n ≡ value_end line 0 + 3 → n < length line → None ≡ given_of line
  unfolding given_of
  more_given f n e h = rw (longer f (omega arith))

  pub single_given : is_form line ≡ true → (l m n : ℕ) → l ≡ (entry_of line).letter → m ≡ name_end line 0 → n ≡ value_end line 0 + 3 → length line ≤ n → Some (given l m) ≡ given_of line
  unfolding given_of
  single_given f l m n p q e h = let w = whole f (omega arith) in rw (w, p, q)

  -- what is known of a line by what was given
  pub other_told : None ≡ given_of line → of_line line ≡ Err NoSingleForm
  unfolding given_of
  other_told e = by (is_single line) e
    where
      by : (b : Bool) → None ≡ pick b (Some (given (entry_of line).letter (3 + length (entry_of line).name))) None → pick b (Ok (tt {0})) (Err NoSingleForm) ≡ Err NoSingleForm
      by true f = let z : ◌≡◌ {A = ℕ} 0 1 = cc in absurd (omega arith)
      by false f = refl

  pub single_told : (l m : ℕ) → Some (given l m) ≡ given_of line → (is_single line ≡ true) × (l ≡ (entry_of line).letter) × (m ≡ 3 + length (entry_of line).name)
  unfolding given_of
  single_told l m e = by (is_single line) e
    where
      by : (b : Bool) → Some (given l m) ≡ pick b (Some (given (entry_of line).letter (3 + length (entry_of line).name))) None
          → (b ≡ true) × (l ≡ (entry_of line).letter) × (m ≡ 3 + length (entry_of line).name)
      by true f = let g : given l m ≡ given (entry_of line).letter (3 + length (entry_of line).name) = cc in (refl, ap (λ (x : Given). x.letter) g, ap (λ (x : Given). x.name_end) g)
      by false f = let z : ◌≡◌ {A = ℕ} 0 1 = cc in absurd (omega arith)

  pub single_inside : (m : ℕ) → is_single line ≡ true → m ≡ 3 + length (entry_of line).name → m ≤ length line
  single_inside m h e = omega (arith, line-fits line 0 (single_form h))

  pub single_key : (l m : ℕ) → is_single line ≡ true → l ≡ (entry_of line).letter → m ≡ 3 + length (entry_of line).name → key_of l (take (m - 3) (drop 3 line)) ≡ key (entry_of line)
  single_key l m h p q = key-told line 0 (single_form h) l m p q

  pub single_accepted : is_single line ≡ true → of_line line ≡ Ok tt
  single_accepted h = rw h
