-- Request (c) as theorems: which lines the outcome has, that it is accepted and no other sheet has these lines, what it replies; a line put and
-- withdrawn again; a line put twice; what stands behind the new length; freed length; the order of the numbers. Assumes nothing.
use Rattle.std.specs.Prelude.{Ok}
use Prim.Native.Nat.{ℕ, ◌+◌, ◌≤◌}
use native.Mathlib.Omega.{arith}
use mathlib.Core.Path.{◌≡◌, refl, sym, ap, subst, ◌∙◌}
use mathlib.Core.Bool.{Bool, true, false}
use mathlib.Core.Logic.{◌↔◌, ◌⊎◌, inl, inr, ⊎_elim}
use mathlib.Core.List.{List, [], Memᴰ}
use lib.ListN.{length}
use Rattle.runs.specs.Runs.{same_text}
use Rattle.runs.proofs.Ordered.{same_true}
use Rattle.sheet.specs.Limits.{sheet_limit}
use Rattle.sheet.specs.Forms.{Entry, entry_of, key, key_of}
use Rattle.sheet.specs.Lines.{lines_of, sheet_text, sheet_check}
use Rattle.sheet.specs.Replies.{unknown, told, reply_in, reply, Alike}
use Rattle.sheet.proofs.Accepted.{accepted-short}
use Rattle.sheet.proofs.Texts.{Good, Rises, form_good, accepted_rises, accepted-text, lines-back, text-accepted}
use Rattle.corrected.specs.Sets.{is_single, without, having, placed, in_order, put_text, withdrawn_text}
use Rattle.corrected.proofs.Sorted.{Apart, without_apart, rises_without, withdrawn_order, put_order, withdrawn_rises, put_rises, reply_apart, in_order_lem}
use Rattle.corrected.proofs.Singles.{single_form, single_written}
use Rattle.corrected.proofs.Members.{from-without, to_without, reply_others, from-placed, to_placed, reply_beside, reply-placed, without-placed, placed_long, without_long, unknown_apart, apart_without, same_members, one_line, apart_differ}

-- an accepted sheet and a single form
module _ (s line : List ℕ) (a : sheet_check s ≡ Ok tt) (l : is_single line ≡ true) where
  abbrev given : Entry
  given = entry_of line

  abbrev asked : List ℕ
  asked = key (entry_of line)

  rises : Rises [] (lines_of s)
  rises = accepted_rises s a

  good : Good given
  good = form_good line (single_form line l)

  -- the lines of the outcome: in order, and just those of the changed set
  put-lines : lines_of (put_text s line) ≡ placed given (without asked (lines_of s))
  unfolding put_text
  put-lines = lines-back (in_order (having given (lines_of s))) (put_rises (lines_of s) rises given good) ∙ put_order (lines_of s) rises given

  withdrawn-lines : lines_of (withdrawn_text s line) ≡ without asked (lines_of s)
  unfolding withdrawn_text
  withdrawn-lines = lines-back (in_order (without asked (lines_of s))) (withdrawn_rises (lines_of s) rises asked) ∙ withdrawn_order (lines_of s) rises asked

  pub put-set : (x : Entry) → Memᴰ x (lines_of (put_text s line)) ↔ ((x ≡ given) ⊎ (Memᴰ x (lines_of s) × (key x ≡ asked → ⊥)))
  put-set x = (
    (λ m. ⊎_elim (λ p. inl p) (λ n. inr (from-without asked x (lines_of s) n)) (from-placed given x (without asked (lines_of s)) (subst (Memᴰ x) put-lines m))),
    (λ m. subst (Memᴰ x) (sym put-lines) (to_placed given x (without asked (lines_of s)) (⊎_elim (λ p. inl p) (λ n. inr (to_without asked x (lines_of s) n.0 n.1)) m))),
  )

  pub withdrawn-set : (x : Entry) → Memᴰ x (lines_of (withdrawn_text s line)) ↔ (Memᴰ x (lines_of s) × (key x ≡ asked → ⊥))
  withdrawn-set x = (
    (λ m. from-without asked x (lines_of s) (subst (Memᴰ x) withdrawn-lines m)),
    (λ m. subst (Memᴰ x) (sym withdrawn-lines) (to_without asked x (lines_of s) m.0 m.1)),
  )

  -- how long it is: a line put adds its own bytes at most, a line withdrawn adds none
  pub put-length : length (put_text s line) ≤ length s + length line
  unfolding put_text
  put-length =
      let t : put_text s line ≡ sheet_text (placed given (without asked (lines_of s))) = ap sheet_text (put_order (lines_of s) rises given) in
      omega (arith, ap length t, placed_long given (without asked (lines_of s)), without_long asked (lines_of s), ap length (accepted-text s a), ap length (single_written line l))

  pub withdrawn-length : length (withdrawn_text s line) ≤ length s
  unfolding withdrawn_text
  withdrawn-length =
      let t : withdrawn_text s line ≡ sheet_text (without asked (lines_of s)) = ap sheet_text (withdrawn_order (lines_of s) rises asked) in
      omega (arith, ap length t, without_long asked (lines_of s), ap length (accepted-text s a))

  -- the outcome is accepted
  pub put-accepted : length (put_text s line) ≤ sheet_limit → sheet_check (put_text s line) ≡ Ok tt
  unfolding put_text
  put-accepted h = text-accepted (in_order (having given (lines_of s))) (put_rises (lines_of s) rises given good) h

  pub withdrawn-accepted : sheet_check (withdrawn_text s line) ≡ Ok tt
  unfolding withdrawn_text
  withdrawn-accepted =
      text-accepted (in_order (without asked (lines_of s))) (withdrawn_rises (lines_of s) rises asked) (omega (arith, withdrawn-length, accepted-short s a))

  -- no other accepted sheet has these lines
  pub put_only : (t : List ℕ) → sheet_check t ≡ Ok tt → ((x : Entry) → Memᴰ x (lines_of t) ↔ ((x ≡ given) ⊎ (Memᴰ x (lines_of s) × (key x ≡ asked → ⊥)))) → t ≡ put_text s line
  unfolding put_text
  put_only t b h =
      let r : Rises [] (placed given (without asked (lines_of s))) =
      subst (Rises []) (put_order (lines_of s) rises given) (put_rises (lines_of s) rises given good) in
      let e : lines_of t ≡ placed given (without asked (lines_of s)) =
      same_members [] [] (lines_of t) (placed given (without asked (lines_of s))) (accepted_rises t b) r
      (λ x m. subst (Memᴰ x) put-lines ((put-set x).1 ((h x).0 m))) (λ x m. (h x).1 ((put-set x).0 (subst (Memᴰ x) (sym put-lines) m))) in
      sym (accepted-text t b) ∙ ap sheet_text (e ∙ sym (put_order (lines_of s) rises given))

  pub withdrawn_only : (t : List ℕ) → sheet_check t ≡ Ok tt → ((x : Entry) → Memᴰ x (lines_of t) ↔ (Memᴰ x (lines_of s) × (key x ≡ asked → ⊥))) → t ≡ withdrawn_text s line
  unfolding withdrawn_text
  withdrawn_only t b h =
      let e : lines_of t ≡ without asked (lines_of s) =
      same_members [] [] (lines_of t) (without asked (lines_of s)) (accepted_rises t b) (rises_without asked [] (lines_of s) rises)
      (λ x m. subst (Memᴰ x) withdrawn-lines ((withdrawn-set x).1 ((h x).0 m))) (λ x m. (h x).1 ((withdrawn-set x).0 (subst (Memᴰ x) (sym withdrawn-lines) m))) in
      sym (accepted-text t b) ∙ ap sheet_text (e ∙ sym (withdrawn_order (lines_of s) rises asked))

  -- the question of the edited line: the given value, or nothing
  pub put-told : reply (put_text s line) given.letter given.name ≡ told given.value
  unfolding reply
  put-told = ap (λ (es : List Entry). reply_in es asked) put-lines ∙ reply-placed given (without asked (lines_of s)) (without_apart asked (lines_of s))

  pub withdrawn-unknown : reply (withdrawn_text s line) given.letter given.name ≡ unknown
  unfolding reply
  withdrawn-unknown = ap (λ (es : List Entry). reply_in es asked) withdrawn-lines ∙ reply_apart asked (without asked (lines_of s)) (without_apart asked (lines_of s))

  -- every other question is answered as before
  module _ (letter : ℕ) (name : List ℕ) (d : key_of letter name ≡ asked → ⊥) where
    pub put_others : Alike s (put_text s line) letter name
    unfolding Alike reply
    put_others =
        sym (ap (λ (es : List Entry). reply_in es (key_of letter name)) put-lines
        ∙ reply_beside given (key_of letter name) (without asked (lines_of s)) d
        ∙ reply_others asked (key_of letter name) (lines_of s) d)

    pub withdrawn_others : Alike s (withdrawn_text s line) letter name
    unfolding Alike reply
    withdrawn_others = sym (ap (λ (es : List Entry). reply_in es (key_of letter name)) withdrawn-lines ∙ reply_others asked (key_of letter name) (lines_of s) d)

  -- a line that was not there, put and withdrawn, gives back the sheet byte for byte
  pub put-withdrawn : reply s given.letter given.name ≡ unknown → withdrawn_text (put_text s line) line ≡ s
  unfolding reply withdrawn_text
  put-withdrawn u =
      let n : Apart asked (lines_of s) = unknown_apart asked (lines_of s) u in
      let w : without asked (lines_of (put_text s line)) ≡ lines_of s =
      ap (without asked) (put-lines ∙ ap (placed given) (apart_without asked (lines_of s) n)) ∙ without-placed given (lines_of s) n in
      ap (λ (es : List Entry). sheet_text (in_order es)) w ∙ ap sheet_text (in_order_lem [] (lines_of s) rises) ∙ accepted-text s a

  -- a line that is there already, put again, changes nothing
  pub put-there : Memᴰ given (lines_of s) → put_text s line ≡ s
  put-there m = sym (put_only s a (λ x. (by x, back x)))
    where
      by : (x : Entry) → Memᴰ x (lines_of s) → (x ≡ given) ⊎ (Memᴰ x (lines_of s) × (key x ≡ asked → ⊥))
      by x n = go (same_text (key x) asked) refl
        where
          go : (b : Bool) → same_text (key x) asked ≡ b → (x ≡ given) ⊎ (Memᴰ x (lines_of s) × (key x ≡ asked → ⊥))
          go true e = inl (one_line [] (lines_of s) x given rises n m (same_true (key x) asked e))
          go false e = inr (n, apart_differ (key x) asked e)

      back : (x : Entry) → (x ≡ given) ⊎ (Memᴰ x (lines_of s) × (key x ≡ asked → ⊥)) → Memᴰ x (lines_of s)
      back x (inl p) = subst (λ (y : Entry). Memᴰ y (lines_of s)) (sym p) m
      back x (inr n) = n.0
