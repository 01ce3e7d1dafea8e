-- What a form is made of, place by place: where its name and its value stand and end, and how long its line is. The reader of lines, the
-- order of keys and every crate above cite it. Assumes nothing.
use mathlib.Core.Path.{◌≡◌, refl, sym, ap, ◌∙◌}
use mathlib.Core.Bool.{Bool, true, false, ◌&&◌, ◌||◌}
use mathlib.Core.List.{List, [], ◌∷◌, ◌++◌, append_assoc}
use Prim.Native.Nat.{ℕ, zero, suc, ◌+◌, ◌<◌, ◌≤◌}
use native.Mathlib.Nat.{add-zero}
use native.Mathlib.Omega.{arith}
use lib.ListN.{length, take, drop, get_or, length-append, length-drop}
use lib.Seq.{take-append_seam, drop-append-add, drop-drop, get_or-drop}
use lib.Dec.{eqb, ltb, leb}
use borrow.Author.Tests.{ne_eqb, ltb-true, not-true}
use Rattle.runs.specs.Bytes.{index_of, index_after}
use Rattle.runs.specs.Runs.{pick, begins_with, ends_in}
use Rattle.runs.proofs.Begins.{and_left, and_right, begins-front}
use Rattle.text.specs.Utf8.{is_utf8}
use Rattle.text.specs.Names.{forbidden, name_run, holds_forbidden}
use Rattle.sheet.specs.Limits.{name_limit, shortest_line}
use Rattle.sheet.specs.Letters.{is_letters, letters_of, well_kept, tag_of}
use Rattle.sheet.specs.Forms.{Entry, front, entry_of, written, is_name, is_kind, is_meant, is_form, sign_i, letter_i}
use Rattle.sheet.specs.Keys.{spaced}
use Rattle.sheet.specs.Lines.{line_at}
use Rattle.sheet.specs.Steps.{name_end, value_end}
use Rattle.sheet.proofs.Fronts.{front-plain}

-- a run without a forbidden byte is passed over on the way to one
pub front_passes : (b : ℕ) (x y : List ℕ) → forbidden b ≡ true → index_of b (front x ++ y) ≡ length (front x) + index_of b y
unfolding name_run index_of index_after
front_passes b [] y f = omega arith
front_passes b (c ∷ x) y f = go (forbidden c) refl (front_passes b x y f)
  where
    go : (t : Bool) → forbidden c ≡ t → index_of b (front x ++ y) ≡ length (front x) + index_of b y →
        index_of b (take (pick t zero (suc (name_run x))) (c ∷ x) ++ y) ≡ length (take (pick t zero (suc (name_run x))) (c ∷ x)) + index_of b y
    go true e r = omega arith
    go false e r =
        let other : c ≡ b → ⊥ = (λ p. let q : false ≡ true = sym e ∙ ap forbidden p ∙ f in let z : ◌≡◌ {A = ℕ} 0 1 = cc in omega arith) in
        let n : eqb c b ≡ false = ne_eqb c b other in
        rw n (omega arith)

-- the length of a line
pub written-length : (e : Entry) → length (written e) ≡ 3 + length e.name + 2 + length e.value + 3
unfolding written
written-length e =
    let a = length-append e.name (0x20 ∷ 0x28 ∷ e.value ++ (0x29 ∷ 0x29 ∷ 0x0A ∷ [])) in
    let b = length-append e.value (0x29 ∷ 0x29 ∷ 0x0A ∷ []) in
    omega arith

-- what stands behind the form at the front of t
abbrev pub behind : List ℕ → List ℕ
behind t = drop (length (written (entry_of t))) t

-- the parts of a form
module _ (t : List ℕ) (h : is_form t ≡ true) where
  pub form_shape : t ≡ written (entry_of t) ++ behind t
  unfolding is_form
  form_shape = begins-front (written (entry_of t)) t (and_left _ _ (and_left _ _ h))

  pub form-named : is_name (entry_of t).name ≡ true
  unfolding is_form
  form-named = and_right (begins_with (written (entry_of t)) t) _ (and_left _ _ h)

  pub form_meant : is_meant (entry_of t) ≡ true
  unfolding is_form
  form_meant = and_right (begins_with (written (entry_of t)) t && is_name (entry_of t).name) _ h

-- the line from behind its value on, from behind its name on, and from its name on; r stands behind the line
abbrev pub closed : List ℕ → List ℕ
closed r = 0x29 ∷ 0x29 ∷ 0x0A ∷ r

abbrev pub from_space : Entry → List ℕ → List ℕ
from_space e r = 0x20 ∷ 0x28 ∷ (e.value ++ closed r)

abbrev pub from_name : Entry → List ℕ → List ℕ
from_name e r = e.name ++ from_space e r

pub written_from : (e : Entry) (r : List ℕ) → written e ++ r ≡ 0x28 ∷ e.letter ∷ 0x20 ∷ from_name e r
unfolding written
written_from e r = simp append_assoc

module _ (t : List ℕ) (h : is_form t ≡ true) where
  form-line : t ≡ 0x28 ∷ (entry_of t).letter ∷ 0x20 ∷ from_name (entry_of t) (behind t)
  form-line = form_shape t h ∙ written_from (entry_of t) (behind t)

  after_three : drop 3 t ≡ from_name (entry_of t) (behind t)
  after_three = ap (λ (l : List ℕ). drop 3 l) form-line

  -- the name ends at its first space
  name_closed : index_of 0x20 (drop 3 t) ≡ length (entry_of t).name
  unfolding entry_of forbidden index_of index_after
  name_closed =
      ap (λ (l : List ℕ). index_of 0x20 l) after_three ∙ front_passes 0x20 (drop 3 t) (from_space (entry_of t) (behind t)) refl ∙ add-zero _

  name-taken : take (length (entry_of t).name) (drop 3 t) ≡ (entry_of t).name
  name-taken = ap (λ (l : List ℕ). take (length (entry_of t).name) l) after_three ∙ take-append_seam (entry_of t).name _

  pub name-spaced : spaced (drop 3 t) ≡ (entry_of t).name
  name-spaced = ap (λ (k : ℕ). take k (drop 3 t)) name_closed ∙ name-taken

  after-name : drop (5 + length (entry_of t).name) t ≡ (entry_of t).value ++ closed (behind t)
  after-name =
      let n = (entry_of t).name in
      let y = from_space (entry_of t) (behind t) in
      let k : 5 + length n ≡ 3 + (length n + 2) = omega arith in
      ap (λ (m : ℕ). drop m t) k ∙ sym (drop-drop (length n + 2) 3 t) ∙ ap (λ (l : List ℕ). drop (length n + 2) l) after_three
      ∙ drop-append-add n y 2

  -- the value ends at its first closing parenthesis
  value_closed : index_of 0x29 (drop (5 + length (entry_of t).name) t) ≡ length (entry_of t).value
  unfolding entry_of forbidden index_of index_after
  value_closed = ap (λ (l : List ℕ). index_of 0x29 l) after-name ∙ front_passes 0x29 _ _ refl ∙ add-zero _

  value_taken : take (length (entry_of t).value) (drop (5 + length (entry_of t).name) t) ≡ (entry_of t).value
  value_taken = ap (λ (l : List ℕ). take (length (entry_of t).value) l) after-name ∙ take-append_seam (entry_of t).value _

-- a good entry has a name and a value
none_meant : (a b c d : Bool) → pick a false (pick b ((d && false) && false) (pick c false false)) ≡ true → ⊥
none_meant true b c d e = let y : ◌≡◌ {A = ℕ} 0 1 = cc in omega arith
none_meant false true c true e = let y : ◌≡◌ {A = ℕ} 0 1 = cc in omega arith
none_meant false true c false e = let y : ◌≡◌ {A = ℕ} 0 1 = cc in omega arith
none_meant false false true d e = let y : ◌≡◌ {A = ℕ} 0 1 = cc in omega arith
none_meant false false false d e = let y : ◌≡◌ {A = ℕ} 0 1 = cc in omega arith

meant_value : (e : Entry) → is_meant e ≡ true → e.value ≡ [] → ⊥
unfolding is_meant is_kind is_name is_letters letters_of well_kept tag_of
meant_value e h p =
    none_meant (eqb e.letter 0x6B) (eqb e.letter 0x6C) (eqb e.letter 0x77) (ends_in sign_i e.name || ends_in letter_i e.name)
    (rw p at h)

some : (l : List ℕ) → (l ≡ [] → ⊥) → 0 < length l
some [] h = absurd (h refl)
some (x ∷ l) h = omega arith

-- the parts of a name
module _ (x : List ℕ) (h : is_name x ≡ true) where
  pub name-plain : holds_forbidden x ≡ false
  unfolding is_name
  name-plain = not-true (holds_forbidden x) (and_right (ltb 0 (length x) && leb (length x) name_limit && is_utf8 x) _ h)

  pub name-some : 0 < length x
  unfolding is_name
  name-some = ltb-true 0 (length x) (and_left _ _ (and_left _ _ (and_left _ _ h)))

pub value-plain : (t : List ℕ) → holds_forbidden (entry_of t).value ≡ false
unfolding entry_of
value-plain t = front-plain (drop 2 (drop (name_run (drop 3 t)) (drop 3 t)))

-- a line of the sheet s, at byte `at`, at which a form stands
module _ (s : List ℕ) (at : ℕ) (h : is_form (drop at s) ≡ true) where
  pub line-bytes : drop at s ≡ written (line_at s at) ++ drop (length (written (line_at s at))) (drop at s)
  line-bytes = form_shape (drop at s) h

  pub line-fits : value_end s at + 3 ≤ length s
  line-fits =
      let n : length (drop at s) ≡ length (written (line_at s at)) + length (drop (length (written (line_at s at))) (drop at s)) = ap length line-bytes ∙ length-append (written (line_at s at)) _ in
      let m = written-length (line_at s at) in
      let k = length-drop at s in
      omega arith

  pub line_long : at + shortest_line ≤ value_end s at + 3
  line_long =
      let n = name-some _ (form-named (drop at s) h) in
      let v = some (line_at s at).value (meant_value (line_at s at) (form_meant (drop at s) h)) in
      omega arith

  pub line-letter : (line_at s at).letter ≡ get_or s (at + 1) 0
  unfolding entry_of
  line-letter = get_or-drop at s 1 0

  -- its name and value, where they stand and end
  pub name-at : spaced (drop (at + 3) s) ≡ (line_at s at).name
  name-at = ap spaced (sym (drop-drop 3 at s)) ∙ name-spaced (drop at s) h

  pub name-ends : at + 3 + index_of 0x20 (drop (at + 3) s) ≡ name_end s at
  name-ends = let z : index_of 0x20 (drop (at + 3) s) ≡ length (line_at s at).name = ap (index_of 0x20) (sym (drop-drop 3 at s)) ∙ name_closed (drop at s) h in omega arith

  pub name-text : take (length (line_at s at).name) (drop (at + 3) s) ≡ (line_at s at).name
  name-text = ap (take (length (line_at s at).name)) (sym (drop-drop 3 at s)) ∙ name-taken (drop at s) h

  value-from : drop (5 + length (line_at s at).name) (drop at s) ≡ drop (name_end s at + 2) s
  value-from = let z : at + (5 + length (line_at s at).name) ≡ name_end s at + 2 = omega arith in drop-drop _ at s ∙ ap (λ (k : ℕ). drop k s) z

  pub value-ends : name_end s at + 2 + index_of 0x29 (drop (name_end s at + 2) s) ≡ value_end s at
  value-ends =
      let z : index_of 0x29 (drop (name_end s at + 2) s) ≡ length (line_at s at).value = ap (index_of 0x29) (sym value-from) ∙ value_closed (drop at s) h in
      omega arith

  pub value-text : take (length (line_at s at).value) (drop (name_end s at + 2) s) ≡ (line_at s at).value
  value-text = ap (take (length (line_at s at).value)) (sym value-from) ∙ value_taken (drop at s) h
