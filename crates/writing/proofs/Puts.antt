-- What a writer is with a text put: where it stands, and what its buffer holds. And what was put, said of buffers alone: texts put one after
-- the other are one text put. Assumes nothing.
use Prim.Native.Nat.{ℕ, suc, ◌+◌, ◌-◌, ◌≤◌, ◌<◌, min}
use native.Mathlib.Omega.{arith}
use native.Mathlib.Nat.{add-zero}
use mathlib.Core.Path.{◌≡◌, refl, sym, ap, ap₂, subst, ◌∙◌}
use mathlib.Core.List.{List, [], ◌∷◌, ◌++◌, append_assoc, append-nil}
use lib.ListN.{length, take, drop, set, length-append, length-drop, length-set, take-append-drop}
use lib.Seq.{sets, sets-eq, set_out, length-take-le, drop-append-add, drop-drop, take_at}
use denote.Ref.{MutBor}
use borrow.Rule.Slice.PartMut.{put_mid, Post-is}
use Rattle.std.proofs.lemmas.List.Sums.{fold-append}
use Rattle.writing.specs.Placed.{largest, placed, Wrote}
use Rattle.writing.specs.Writers.{with_byte, with_text}
use Rattle.writing.specs.declared.Writer.{Writer}

-- the writer with other contents and another place
abbrev moved : Writer → List ℕ → ℕ → Writer
moved w now at = record w { out = record w.out { now = now }; at = at }

-- the place goes on by the text's length, the buffer keeps its own, and stays the same one
pub goes : (text : List ℕ) (w : Writer) → w.at ≤ largest → (with_text w text).at ≡ min (w.at + length text) largest
unfolding with_byte
goes [] w l = omega arith
goes (b ∷ text) w l = goes text (with_byte w b) (omega arith) ∙ omega arith

keeps : (text : List ℕ) (w : Writer) → length (with_text w text).out.now ≡ length w.out.now
unfolding with_byte
keeps [] w = refl
keeps (b ∷ text) w = keeps text (with_byte w b) ∙ length-set w.out.now w.at b

named : (text : List ℕ) (w : Writer) → (with_text w text).out.ghost_name ≡ w.out.ghost_name
unfolding with_byte
named [] w = refl
named (b ∷ text) w = named text (with_byte w b)

-- a text that fits in stands at the place
all-set : (text : List ℕ) (w : Writer) → w.at + length text ≤ largest → with_text w text ≡ moved w (sets w.out.now w.at text) (w.at + length text)
unfolding with_byte
all-set [] w h = ap (moved w w.out.now) (sym (add-zero w.at))
all-set (b ∷ text) w h =
    let e : min (w.at + 1) largest ≡ suc w.at = omega arith in
    let now = set w.out.now w.at b in
    all-set text (with_byte w b) (omega arith)
    ∙ ap (λ (k : ℕ). moved w (sets now k text) (k + length text)) e
    ∙ ap (λ (k : ℕ). moved w (sets now (suc w.at) text) k) (omega arith)

fitted : (text : List ℕ) (w : Writer) → w.at + length text ≤ largest → w.at + length text ≤ length w.out.now
    → with_text w text ≡ moved w (placed w.out.now w.at text) (w.at + length text)
unfolding placed
fitted text w h g =
    all-set text w h
    ∙ ap (λ (x : List ℕ). moved w x (w.at + length text)) (sets-eq text w.out.now w.at g ∙ append_assoc (take w.at w.out.now) text (drop (w.at + length text) w.out.now))

-- behind the buffer's end nothing is put
past : (text : List ℕ) (w : Writer) → length w.out.now ≤ w.at → w.at ≤ largest → with_text w text ≡ moved w w.out.now (min (w.at + length text) largest)
unfolding with_byte
past [] w h l = ap (moved w w.out.now) (omega arith)
past (b ∷ text) w h l =
    let e = set_out w.out.now w.at b h in
    past text (with_byte w b) (omega (arith, ap length e)) (omega arith)
    ∙ ap (λ (x : List ℕ). moved w x (min (min (w.at + 1) largest + length text) largest)) e
    ∙ ap (moved w w.out.now) (omega arith)

-- What `put` leaves: `end` is the place behind the text, and `part` what was copied into the buffer from the place on.
module _ (text part : List ℕ) (w : Writer) (end : ℕ) (l : w.at ≤ largest) (top : length w.out.now < largest) (e : end ≡ min (w.at + length text) largest) where
  -- a text that fits in
  pub put_all : end ≤ length w.out.now → part ≡ text → moved w (put_mid w.at (end - w.at) w.out.now part) end ≡ with_text w text
  unfolding placed
  put_all h p =
      let now = w.out.now in
      let d : drop (end - w.at) (drop w.at now) ≡ drop (w.at + length text) now = drop-drop (end - w.at) w.at now ∙ ap (λ (k : ℕ). drop k now) (omega arith) in
      ap₂ (λ (x y : List ℕ). moved w (take w.at now ++ (x ++ y)) end) p d
      ∙ ap (moved w (placed now w.at text)) (omega arith)
      ∙ sym (fitted text w (omega arith) (omega arith))

  -- one of which there is room for the front
  pub put_front_of : w.at < length w.out.now → length w.out.now < end → part ≡ take (length w.out.now - w.at) text
      → moved w (put_mid w.at (length w.out.now - w.at) w.out.now part) end ≡ with_text w text
  unfolding placed
  put_front_of h g p =
      let now = w.out.now in
      let n = length now - w.at in
      let front = take n text in
      let k : length front ≡ n = length-take-le n text (omega arith) in
      let all = placed now w.at front in
      let size = length-take-le w.at now (omega arith) in
      let same : length all ≡ length now = simp (length-append, length-drop) (omega arith) in
      let d : drop n (drop w.at now) ≡ drop (w.at + length front) now = drop-drop n w.at now ∙ ap (λ (j : ℕ). drop (w.at + j) now) (sym k) in
      let r = past (drop n text) (moved w all (w.at + length front)) (omega arith) (omega arith) in
      ap₂ (λ (x y : List ℕ). moved w (take w.at now ++ (x ++ y)) end) p d
      ∙ ap (moved w all) (omega (arith, length-drop n text))
      ∙ sym (ap (with_text w) (sym (take-append-drop n text)) ∙ fold-append with_byte w front (drop n text)
      ∙ ap (λ (v : Writer). with_text v (drop n text)) (fitted front w (omega arith) (omega arith)) ∙ r)

  -- one of which there is room for nothing
  pub put_none_of : length w.out.now ≤ w.at → moved w w.out.now end ≡ with_text w text
  put_none_of h = sym (past text w h l ∙ ap (moved w w.out.now) (sym e))

-- what a put does by its places, and where the text fits in
pub wrote : (text : List ℕ) (w : Writer) → w.at ≤ largest → Wrote w.out.now (with_text w text).out.now w.at (with_text w text).at text
wrote text w l = record {
  end = goes text w l;
  size = keeps text w;
  there = λ h g. ap (λ (v : Writer). v.out.now) (fitted text w h g);
}

-- a writer at a buffer's front that put a text still holds that buffer
pub same_buffer : (text : List ℕ) {out : MutBor (List ℕ)} {w new : Writer} → w ≡ record { out = out; at = 0 } → new ≡ with_text w text
    → new.out.ghost_name ≡ out.ghost_name
same_buffer text a p = ap (λ (v : Writer). v.out.ghost_name) p ∙ named text _ ∙ ap (λ (v : Writer). v.out.ghost_name) a

-- what the buffer holds, and how long the text is, once the writer has given it back
pub put_into : (new : Writer) {out : MutBor (List ℕ)} {w : Writer} {text x : List ℕ} {n : ℕ} → w ≡ record { out = out; at = 0 } → new ≡ with_text w text
    → n ≡ new.at → (out.ghost_name ≡ new.out.ghost_name → x ≡ new.out.now) → Wrote out.now x 0 n text
put_into new {out} {w} {text} {x} {n} a p m back =
    let v : Writer = record { out = out; at = 0 } in
    let e : new ≡ with_text v text = p ∙ ap (λ (u : Writer). with_text u text) a in
    let z : x ≡ (with_text v text).out.now = back (sym (same_buffer text a p)) ∙ ap (λ (u : Writer). u.out.now) e in
    let q : n ≡ (with_text v text).at = m ∙ ap (λ (u : Writer). u.at) e in
    rw (z, q) (wrote text v (omega arith))

-- what a writer at the front of a buffer with room for the text has put
pub put_whole : (text : List ℕ) {out : MutBor (List ℕ)} {w new : Writer} → w ≡ record { out = out; at = 0 } → new ≡ with_text w text
    → length text ≤ length out.now → length out.now ≤ largest → take new.at new.out.now ≡ text
unfolding placed
put_whole text {out} {w} {new} a p h k =
    let v : Writer = record { out = out; at = 0 } in
    let e = p ∙ ap (λ (u : Writer). with_text u text) a ∙ fitted text v (omega arith) (omega arith) in
    ap (λ (u : Writer). take u.at u.out.now) e ∙ take_at text (drop (0 + length text) out.now) (0 + length text) (omega arith)

-- Puts said of the buffer before and after.

length-placed : (old : List ℕ) (at : ℕ) (text : List ℕ) → at + length text ≤ length old → length (placed old at text) ≡ length old
unfolding placed
length-placed old at text h =
    let l = length-take-le at old (omega arith) in
    simp (length-append, length-drop) (omega arith)

placed_twice : (old : List ℕ) (at : ℕ) (t u : List ℕ) → at + length t + length u ≤ length old
    → placed (placed old at t) (at + length t) u ≡ placed old at (t ++ u)
unfolding placed
placed_twice old at t u h =
    let n = at + length t in
    let p = take at old ++ t in
    let r = drop n old in
    let e : take at old ++ (t ++ r) ≡ p ++ r = sym (append_assoc (take at old) t r) in
    let l : length p ≡ n = length-append (take at old) t ∙ ap (λ (k : ℕ). k + length t) (length-take-le at old (omega arith)) in
    let w : n + length u ≡ at + length (t ++ u) = omega (arith, length-append t u) in
    let d : drop (n + length u) (p ++ r) ≡ drop (at + length (t ++ u)) old =
    ap (λ (k : ℕ). drop (k + length u) (p ++ r)) (sym l) ∙ drop-append-add p r (length u) ∙ drop-drop (length u) n old
    ∙ ap (λ (k : ℕ). drop k old) w in
    ap (λ (x : List ℕ). take n x ++ (u ++ drop (n + length u) x)) e
    ∙ ap (λ (x : List ℕ). x ++ (u ++ drop (n + length u) (p ++ r))) (take_at p r n l)
    ∙ ap (λ (x : List ℕ). p ++ (u ++ x)) d
    ∙ append_assoc (take at old) t (u ++ drop (at + length (t ++ u)) old)
    ∙ ap (λ (x : List ℕ). take at old ++ x) (sym (append_assoc t u (drop (at + length (t ++ u)) old)))

-- a text copied into the part of a buffer that it fills
pub put_copied : (old text part : List ℕ) (at end : ℕ) → end ≡ at + length text → end ≤ length old → end ≤ largest
    → part ≡ text → Wrote old (put_mid at (end - at) old part) at end text
unfolding placed
put_copied old text part at end e f g q =
    let w : put_mid at (end - at) old part ≡ placed old at text =
    ap (λ (x : List ℕ). take at old ++ (x ++ drop (end - at) (drop at old))) q
    ∙ ap (λ (x : List ℕ). take at old ++ (text ++ x)) (Post-is at end old (omega arith) ∙ ap (λ (k : ℕ). drop k old) e) in
    record {
      end = omega arith;
      size = ap length w ∙ length-placed old at text (omega arith);
      there = λ _ _. w;
    }

-- no text
pub put_nothing : (old : List ℕ) (at : ℕ) → at ≤ largest → Wrote old old at at []
unfolding placed
put_nothing old at h = record {
  end = omega arith;
  size = refl;
  there = λ _ _. sym (ap (λ (k : ℕ). take at old ++ drop k old) (add-zero at) ∙ take-append-drop at old);
}

-- a text, and then another at the place after it
pub put_both : {old mid new : List ℕ} {at m next : ℕ} {t u : List ℕ} → Wrote old mid at m t → Wrote mid new m next u
    → Wrote old new at next (t ++ u)
put_both {old} {mid} {new} {at} {m} {next} {t} {u} a b =
    let l = length-append t u in
    record {
      end = let p = a.end in let q = b.end in omega arith;
      size = b.size ∙ a.size;
      there = by;
    }
  where
    by : at + length (t ++ u) ≤ largest → at + length (t ++ u) ≤ length old → new ≡ placed old at (t ++ u)
    by g h =
        let l = length-append t u in
        let p = a.end in
        let q = a.size in
        let z : m ≡ at + length t = omega arith in
        b.there (omega arith) (omega arith) ∙ ap (λ (k : ℕ). placed mid k u) z
        ∙ ap (λ (x : List ℕ). placed x (at + length t) u) (a.there (omega arith) (omega arith))
        ∙ placed_twice old at t u (omega arith)

-- the same text, said otherwise
pub put_as : {old new : List ℕ} {at next : ℕ} {t u : List ℕ} → t ≡ u → Wrote old new at next t → Wrote old new at next u
put_as {old} {new} {at} {next} e w = subst (λ (x : List ℕ). Wrote old new at next x) e w

-- a loop that puts `whole` piece by piece: what is put, and `rest`, which is to come
pub record Upto (old new : List ℕ) (at next : ℕ) (whole rest : List ℕ) : Type 0 where
  pub done : List ℕ
  pub wrote : Wrote old new at next done
  pub splits : done ++ rest ≡ whole

pub upto-none : (old : List ℕ) (at : ℕ) (whole : List ℕ) → at ≤ largest → Upto old old at at whole whole
upto-none old at whole h = record { done = []; wrote = put_nothing old at h; splits = refl }

pub upto-more : {old mid new : List ℕ} {at m next : ℕ} {whole rest t rest' : List ℕ} → Upto old mid at m whole rest
    → Wrote mid new m next t → rest ≡ t ++ rest' → Upto old new at next whole rest'
upto-more {t = t} {rest' = rest'} u w e = record {
  done = u.done ++ t;
  wrote = put_both u.wrote w;
  splits = append_assoc u.done t rest' ∙ ap (λ (x : List ℕ). u.done ++ x) (sym e) ∙ u.splits;
}

pub upto_all : {old new : List ℕ} {at next : ℕ} {whole rest : List ℕ} → Upto old new at next whole rest → rest ≡ [] → Wrote old new at next whole
upto_all u e = put_as (sym (append-nil u.done) ∙ ap (λ (x : List ℕ). u.done ++ x) (sym e) ∙ u.splits) u.wrote
