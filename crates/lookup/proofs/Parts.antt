-- Where the name and the value of a found line stand in the sheet. The proofs of `answers` cite it. Assumes nothing.
use Rattle.std.specs.Prelude.{None, Option, Some}
use mathlib.Core.Path.{◌≡◌, refl, sym, ap, ap₂, subst, ◌∙◌}
use mathlib.Core.Bool.{Bool}
use mathlib.Core.List.{List, [], ◌++◌, append-nil}
use Prim.Native.Nat.{ℕ, ◌+◌, ◌-◌}
use native.Mathlib.Omega.{arith}
use lib.ListN.{length, take, drop}
use Rattle.runs.specs.Runs.{pick, same_text}
use Rattle.sheet.specs.Forms.{key, key_of}
use Rattle.sheet.specs.Lines.{line_at}
use Rattle.sheet.specs.Replies.{Reply, reply}
use Rattle.lookup.specs.declared.answers.Spot.{Spot}
use Rattle.sheet.specs.declared.form.FormAt.{FormAt}
use Rattle.lookup.specs.Search.{answer_at, Sought, Found}
use Rattle.lookup.specs.Answers.{text_at, told_at, SpotIn, value_spot, name_spot, ValueOf, named, NameOf, post, kind_told, kind_for}
use Rattle.lookup.specs.declared.answers.SheetKind.TheVariants.{Post, Comp}
use Rattle.sheet.specs.Steps.{name_end, value_end}
use Rattle.sheet.proofs.Forms.{line-fits, name-text, value-text}

module _ (s : List ℕ) (letter : ℕ) (name : List ℕ) where
  found_name : (at : ℕ) → Sought s letter name (Some at) → (line_at s at).name ≡ name
  found_name at k = let e : key (line_at s at) ≡ key_of letter name = k.placed.asks in cc

  -- its name is the question's
  pub name_of : (line : Option ℕ) (r : Option Spot) → Sought s letter name line → r ≡ name_spot s line → SpotIn s r → NameOf s letter name r
  name_of line r k e i = record {
    settled = e ∙ ap (name_spot s) k.settled;
    reads = ap (text_at s) e ∙ reads-name line k ∙ ap (named name) k.answers;
    inside = i;
  }
    where
      reads-name : (line : Option ℕ) → Sought s letter name line → text_at s (name_spot s line) ≡ named name (answer_at s line)
      reads-name None k = refl
      reads-name (Some at) k = ap Reply.told (name-text s at k.placed.form ∙ found_name at k)

  -- and its value is what the sheet replies
  pub value_of : (line : Option ℕ) (r : Option Spot) → Sought s letter name line → r ≡ value_spot s line → SpotIn s r → ValueOf s letter name r
  value_of line r k e i = record {
    settled = e ∙ ap (value_spot s) k.settled;
    reads = ap (text_at s) e ∙ reads-value line k ∙ k.answers;
    inside = i;
  }
    where
      reads-value : (line : Option ℕ) → Sought s letter name line → text_at s (value_spot s line) ≡ answer_at s line
      reads-value None k = refl
      reads-value (Some at) k = ap Reply.told (value-text s at k.placed.form)

  -- the same of the line that a search gives
  module _ (f : Option FormAt) (k : Found s letter name f) where
    pub found-none : f ≡ None → (ValueOf s letter name None) × (NameOf s letter name None)
    found-none e =
        let q : Sought s letter name None = (subst (Found s letter name) e k).sought in
        (value_of None None q refl tt, name_of None None q refl tt)

    module _ (l : FormAt) (e : f ≡ Some l) where
      here : Found s letter name (Some l)
      here = subst (Found s letter name) e k

      pub found-value : (v : Spot) → Some v ≡ value_spot l.sheet.now (Some l.at) → SpotIn l.sheet.now (Some v) → ValueOf s letter name (Some v)
      found-value v p i =
          value_of (Some l.at) (Some v) here.sought (p ∙ ap (λ (x : List ℕ). value_spot x (Some l.at)) here.of_sheet)
          (subst (λ (x : List ℕ). SpotIn x (Some v)) here.of_sheet i)

      pub found-name : (n m : ℕ) → n ≡ l.at + 3 → m ≡ name_end l.sheet.now l.at → NameOf s letter name (Some (record { at = n; len = m - n }))
      found-name n m p r =
          let q : m ≡ name_end s l.at = r ∙ ap (λ (x : List ℕ). name_end x l.at) here.of_sheet in
          let k : m - n ≡ length (line_at s l.at).name = omega arith in
          name_of (Some l.at) _ here.sought (ap₂ (λ (x y : ℕ). Some (record { at = x; len = y })) p k)
          (omega (arith, q, line-fits s l.at here.sought.placed.form))

    pub found-told : told_at f ≡ reply s letter name
    found-told = by f k
      where
        by : (f : Option FormAt) → Found s letter name f → told_at f ≡ reply s letter name
        by None k = k.sought.answers
        by (Some l) k = ap (λ (x : List ℕ). Reply.told (line_at x l.at).value) k.of_sheet ∙ k.sought.answers

-- the value of a line, between its own ends
pub value-spot : (s : List ℕ) (at from to : ℕ) → from ≡ name_end s at + 2 → to ≡ value_end s at
    → Some (record { at = from; len = to - from }) ≡ value_spot s (Some at)
value-spot s at from to e f =
    let n : to - from ≡ length (line_at s at).value = omega arith in
    ap₂ (λ (a b : ℕ). Some (record { at = a; len = b })) e n

-- a name and nothing behind it is the name
pub one-part : (s : List ℕ) (letter : ℕ) (name : List ℕ) (r : Option Spot) → ValueOf s letter (name ++ []) r → ValueOf s letter name r
one-part s letter name r k = rw append-nil at k

pub one_found : (s : List ℕ) (letter : ℕ) (name : List ℕ) (f : Option FormAt) → Found s letter (name ++ []) f → Found s letter name f
one_found s letter name f k = rw append-nil at k

-- what the sheet replies, read where the part stands, from its first byte up to its end
module _ (s : List ℕ) (letter : ℕ) (name : List ℕ) (r : Option Spot) (k : ValueOf s letter name r) where
  pub unread : r ≡ None → Reply.unknown ≡ reply s letter name
  unread e = ap (text_at s) (sym e) ∙ k.reads

  pub read : (v : Spot) → r ≡ Some v → Reply.told (take (v.at + v.len - v.at) (drop v.at s)) ≡ reply s letter name
  read v e =
      let p : v.at + v.len - v.at ≡ v.len = omega arith in
      ap (λ (x : ℕ). Reply.told (take x (drop v.at s))) p ∙ ap (text_at s) (sym e) ∙ k.reads

-- the kind of a suffix, where b is what was found of the value
module _ (s name : List ℕ) (f : Option FormAt) (k : Found s 0x6B name f) where
  pub kind_none : f ≡ None → None ≡ kind_for s name
  unfolding kind_for
  kind_none e = ap kind_told (ap told_at (sym e) ∙ found-told s 0x6B name f k)

  pub kind_read : (l : FormAt) → f ≡ Some l → (v : List ℕ) → v ≡ (line_at l.sheet.now l.at).value → (b c : Bool) → b ≡ same_text v post → b ≡ c
      → Some (pick c Post Comp) ≡ kind_for s name
  unfolding kind_for
  kind_read l q v w b c e g =
      ap (λ (x : Bool). Some (pick x Post Comp)) (sym g ∙ e ∙ ap (λ (x : List ℕ). same_text x post) w)
      ∙ ap kind_told (ap told_at (sym q) ∙ found-told s 0x6B name f k)
