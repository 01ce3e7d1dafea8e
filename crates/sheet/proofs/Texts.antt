-- Entries written out and read back: an accepted sheet is its entries written out, and entries that rise make an accepted sheet, which has
-- them as its lines. What changes a sheet line by line rests on it. Assumes nothing.
use Rattle.std.specs.Prelude.{Ok}
use Prim.Native.Nat.{ℕ, zero, suc, ◌+◌, ◌<◌, ◌≤◌}
use native.Mathlib.Omega.{arith}
use native.Mathlib.Nat.{add-zero}
use mathlib.Core.Path.{◌≡◌, refl, sym, ap, ◌∙◌}
use mathlib.Core.Bool.{Bool, true, false, ◌&&◌}
use mathlib.Core.List.{List, [], ◌∷◌, ◌++◌, map}
use lib.ListN.{length, take, drop, get_or, length-append, drop_of_length-le}
use lib.Seq.{drop-drop, drop-append_seam, take-append_seam}
use lib.Dec.{ltb, eqb}
use borrow.Author.Tests.{ltb-true, ltb-false, eq-eqb}
use Rattle.runs.specs.Runs.{pick, cmp, is_less, begins_with}
use Rattle.std.specs.declared.cmp.Ordering.TheVariants.{Less}
use Rattle.text.specs.Names.{forbidden, name_run, holds_forbidden}
use Rattle.sheet.specs.Limits.{sheet_limit}
use Rattle.sheet.specs.Forms.{Entry, front, entry_of, written, is_name, is_meant, is_form, key}
use Rattle.sheet.specs.Lines.{starts_from, starts_of, line_at, lines_of, sheet_text, judged, sheet_check}
use Rattle.sheet.specs.Steps.{value_end}
use Rattle.sheet.proofs.Forms.{closed, from_space, from_name, written_from, written-length, form-named, form_meant, name-plain, value-plain, line-bytes, line_long}
use Rattle.sheet.proofs.Lines.{no_lines, some-line, next_line, written_next}
use Rattle.sheet.proofs.Stepped.{same_entry}
use Rattle.sheet.proofs.Walks.{judged_on, judged-end, check_walk}
use Rattle.sheet.proofs.Accepted.{GoesUp, accepted_up}

-- an entry that can be a line
pub record Good (e : Entry) : Type 0 where
  pub named : is_name e.name ≡ true
  pub meant : is_meant e ≡ true
  pub plain : holds_forbidden e.value ≡ false

-- good entries, each above the one before, and the first above the key `last`
abbrev pub Rises : List ℕ → List Entry → Type 0
Rises last [] = Unit {0}
Rises last (e ∷ es) = Good e × (cmp last (key e) ≡ Less) × Rises (key e) es

pub form_good : (t : List ℕ) → is_form t ≡ true → Good (entry_of t)
form_good t h = record { named = form-named t h; meant = form_meant t h; plain = value-plain t }

-- a run without a forbidden byte ends at the first one behind it
run_ends : (x : List ℕ) (b : ℕ) (y : List ℕ) → holds_forbidden x ≡ false → forbidden b ≡ true → name_run (x ++ b ∷ y) ≡ length x
unfolding name_run holds_forbidden
run_ends [] b y h f = rw f
run_ends (c ∷ x) b y h f = by (forbidden c) h (run_ends x b y)
  where
    by : (g : Bool) → pick g true (holds_forbidden x) ≡ false → (holds_forbidden x ≡ false → forbidden b ≡ true → name_run (x ++ b ∷ y) ≡ length x)
        → pick g zero (suc (name_run (x ++ b ∷ y))) ≡ suc (length x)
    by true k rest = let z : ◌≡◌ {A = ℕ} 0 1 = cc in absurd (omega arith)
    by false k rest = ap suc (rest k f)

front_ends : (x : List ℕ) (b : ℕ) (y : List ℕ) → holds_forbidden x ≡ false → forbidden b ≡ true → front (x ++ b ∷ y) ≡ x
front_ends x b y h f = ap (λ (n : ℕ). take n (x ++ b ∷ y)) (run_ends x b y h f) ∙ take-append_seam x (b ∷ y)

begins_own : (x r : List ℕ) → begins_with x (x ++ r) ≡ true
begins_own [] r = refl
begins_own (b ∷ x) r = rw (eq-eqb b b refl) (begins_own x r)

-- an entry written out, with r behind it, reads as the entry
module _ (e : Entry) (g : Good e) (r : List ℕ) where
  name-read : front (from_name e r) ≡ e.name
  unfolding forbidden
  name-read = front_ends e.name 0x20 (0x28 ∷ (e.value ++ closed r)) (name-plain e.name g.named) refl

  value_read : front (drop 2 (drop (name_run (from_name e r)) (from_name e r))) ≡ e.value
  unfolding forbidden
  value_read =
      let n : name_run (from_name e r) ≡ length e.name = run_ends e.name 0x20 (0x28 ∷ (e.value ++ closed r)) (name-plain e.name g.named) refl in
      let d : drop (name_run (from_name e r)) (from_name e r) ≡ from_space e r = ap (λ (k : ℕ). drop k (from_name e r)) n ∙ drop-append_seam e.name (from_space e r) in
      ap (λ (l : List ℕ). front (drop 2 l)) d ∙ front_ends e.value 0x29 (0x29 ∷ 0x0A ∷ r) g.plain refl

  pub read_back_lem : entry_of (written e ++ r) ≡ e
  unfolding entry_of
  read_back_lem = ap entry_of (written_from e r) ∙ same_entry _ _ _ _ refl name-read value_read

  pub form-back : is_form (written e ++ r) ≡ true
  unfolding is_form
  form-back =
      ap (λ (x : Entry). begins_with (written x) (written e ++ r) && is_name x.name && is_meant x) read_back_lem
      ∙ rw (begins_own (written e) r, g.named, g.meant)

-- the lines of entries written out, of which the first begins at byte n of s
module _ (s : List ℕ) where
  behind-first : (n : ℕ) (e : Entry) (es : List Entry) → drop n s ≡ sheet_text (e ∷ es) → drop (n + length (written e)) s ≡ sheet_text es
  behind-first n e es d =
      sym (drop-drop (length (written e)) n s) ∙ ap (drop (length (written e))) d ∙ drop-append_seam (written e) (sheet_text es)

  starts_next : (n : ℕ) (e : Entry) (es : List Entry) → Good e →
      starts_from true n (sheet_text (e ∷ es)) ≡ n ∷ starts_from true (n + length (written e)) (sheet_text es)
  starts_next n e es g = written_next e (sheet_text es) n g.meant (name-plain e.name g.named) g.plain

  first-line : (n : ℕ) (e : Entry) (es : List Entry) → Good e → drop n s ≡ sheet_text (e ∷ es) → line_at s n ≡ e
  first-line n e es g d = ap entry_of d ∙ read_back_lem e g (sheet_text es)

  lines_from : (n : ℕ) (last : List ℕ) (es : List Entry) → Rises last es → drop n s ≡ sheet_text es → map (line_at s) (starts_from true n (sheet_text es)) ≡ es
  lines_from n last [] g d = refl
  lines_from n last (e ∷ es) g d =
      let t = lines_from (n + length (written e)) (key e) es g.2 (behind-first n e es d) in
      let h = first-line n e es g.0 d in
      ap (map (line_at s)) (starts_next n e es g.0) ∙ ap (λ (l : List Entry). line_at s n ∷ l) t ∙ ap (λ (x : Entry). x ∷ es) h

  judged-from : (n : ℕ) (last : List ℕ) (es : List Entry) → Rises last es → drop n s ≡ sheet_text es → judged s last (starts_from true n (sheet_text es)) ≡ Ok tt
  judged-from n last [] g d = judged-end s last
  judged-from n last (e ∷ es) g d =
      let h = first-line n e es g.0 d in
      let f : is_form (drop n s) ≡ true = ap is_form d ∙ form-back e g.0 (sheet_text es) in
      let l : is_less (cmp last (key (line_at s n))) ≡ true = ap (λ (x : Entry). is_less (cmp last (key x))) h ∙ ap is_less g.1 in
      ap (judged s last) (starts_next n e es g.0) ∙ judged_on s last n _ f l
      ∙ ap (λ (x : Entry). judged s (key x) (starts_from true (n + length (written e)) (sheet_text es))) h
      ∙ judged-from (n + length (written e)) (key e) es g.2 (behind-first n e es d)

-- each line of entries written out begins behind the bytes of those before it; the first begins at byte n
pub start_at : (n : ℕ) (last : List ℕ) (es : List Entry) → Rises last es → (i : ℕ) → i < length es →
    get_or (starts_from true n (sheet_text es)) i 0 ≡ n + length (sheet_text (take i es))
start_at n last [] g i h = absurd (omega arith)
start_at n last (e ∷ es) g zero h = ap (λ (l : List ℕ). get_or l 0 0) (starts_next [] n e es g.0) ∙ sym (add-zero n)
start_at n last (e ∷ es) g (suc i) h =
    let r = start_at (n + length (written e)) (key e) es g.2 i (omega arith) in
    let l = length-append (written e) (sheet_text (take i es)) in
    ap (λ (l : List ℕ). get_or l (suc i) 0) (starts_next [] n e es g.0) ∙ r ∙ omega arith

-- entries that rise make an accepted sheet, and are its lines
pub lines-back : (es : List Entry) → Rises [] es → lines_of (sheet_text es) ≡ es
lines-back es g = lines_from (sheet_text es) 0 [] es g refl

pub text-accepted : (es : List Entry) → Rises [] es → length (sheet_text es) ≤ sheet_limit → sheet_check (sheet_text es) ≡ Ok tt
text-accepted es g h = check_walk (sheet_text es) h ∙ judged-from (sheet_text es) 0 [] es g refl

-- the lines of an accepted sheet rise, and written out they are the sheet
pub accepted_rises : (s : List ℕ) → sheet_check s ≡ Ok tt → Rises [] (lines_of s)
accepted_rises s h = go [] (starts_of s) (accepted_up s h)
  where
    go : (last places : List ℕ) → GoesUp s last places → Rises last (map (line_at s) places)
    go last [] g = tt
    go last (at ∷ places) g = (form_good (drop at s) g.0, g.1, go (key (line_at s at)) places g.2)

-- k is at least how many bytes there are from byte `at` on
text-from : (k : ℕ) (s : List ℕ) (at : ℕ) (last : List ℕ) → length s ≤ at + k → GoesUp s last (starts_from true at (drop at s)) →
    sheet_text (map (line_at s) (starts_from true at (drop at s))) ≡ drop at s
text-from zero s at last h g =
    let l : length s ≤ at = omega arith in
    ap (λ (x : List ℕ). sheet_text (map (line_at s) x)) (no_lines s at l) ∙ sym (drop_of_length-le s l)
text-from (suc k) s at last h g = go (ltb at (length s)) refl (text-from k s)
  where
    go : (b : Bool) → ltb at (length s) ≡ b →
        ((n : ℕ) (l : List ℕ) → length s ≤ n + k → GoesUp s l (starts_from true n (drop n s)) → sheet_text (map (line_at s) (starts_from true n (drop n s))) ≡ drop n s) →
        sheet_text (map (line_at s) (starts_from true at (drop at s))) ≡ drop at s
    go false f rest =
        let l = ltb-false at (length s) f in
        ap (λ (x : List ℕ). sheet_text (map (line_at s) x)) (no_lines s at l) ∙ sym (drop_of_length-le s l)
    go true f rest =
        let n = some-line s at (ltb-true _ _ f) in
        let g' : GoesUp s last (at ∷ starts_from (eqb (get_or s at 0) 0x0A) (suc at) (drop (suc at) s)) = rw n at g in
        let e = value_end s at + 3 in
        let w = written (line_at s at) in
        let m = next_line s at g'.0 in
        let g'' : GoesUp s last (at ∷ starts_from true e (drop e s)) = rw m at g in
        let l = line_long s at g'.0 in
        let i : at + length w ≡ e = rw (written-length (line_at s at)) (omega arith) in
        let d : drop (length w) (drop at s) ≡ drop e s = drop-drop (length w) at s ∙ ap (λ (x : ℕ). drop x s) i in
        ap (λ (x : List ℕ). sheet_text (map (line_at s) x)) m
        ∙ ap (λ (x : List ℕ). w ++ x) (rest e (key (line_at s at)) (omega arith) g''.2 ∙ sym d)
        ∙ sym (line-bytes s at g'.0)

pub accepted-text : (s : List ℕ) → sheet_check s ≡ Ok tt → sheet_text (lines_of s) ≡ s
accepted-text s h = text-from (length s) s 0 [] (omega arith) (accepted_up s h)
