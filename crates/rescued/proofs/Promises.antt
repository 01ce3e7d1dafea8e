-- Request (m) as theorems: the stretches are the input exactly; the kept sheet is always accepted; a good sheet comes out unchanged and has
-- no report line, and no other has none; which number is given; how much room is enough. Assumes nothing.
use Rattle.std.specs.Prelude.{Err, Ok, Option, Some, None}
use Prim.Native.Nat.{ℕ, ◌+◌, ◌-◌, ◌*◌, ◌<◌, ◌≤◌}
use native.Mathlib.Omega.{arith}
use mathlib.Core.Path.{◌≡◌, refl, sym, ap, subst, ◌∙◌}
use mathlib.Core.Bool.{Bool, true, false, ◌&&◌, ◌||◌, not}
use mathlib.Core.Logic.{◌↔◌, ◌⊎◌, inl, inr, ⊎_elim}
use mathlib.Core.List.Memᴰ
use mathlib.Core.List.{List, [], ◌∷◌, ◌++◌, append-nil, Memᴰ}
use lib.ListN.{length, take, drop, length-append, drop_of_length-le, take-append-drop}
use lib.Seq.{drop-drop, take_at}
use lib.Dec.{leb, ltb}
use borrow.Author.Tests.{le-leb, lt-ltb, le-ltb, leb-true, leb-false}
use Rattle.runs.specs.Runs.{pick}
use Rattle.refusals.specs.Refusals.{cause_if, lowest_numbers_of}
use Rattle.refusals.specs.declared.Refusal.TheVariants.{SheetTooLong, OutputTooShort}
use Rattle.sheet.specs.Limits.{sheet_limit}
use Rattle.sheet.specs.Forms.{Entry, is_form, written, key}
use Rattle.sheet.specs.Lines.{starts_of, line_at, sheet_text, sheet_check}
use Rattle.sheet.specs.Steps.{value_end}
use Rattle.sheet.specs.Walks.{key_before}
use Rattle.sheet.specs.declared.walk.Walk.{Walk}
use Rattle.sheet.specs.declared.line.LineFault.{LineFault}
use Rattle.sheet.specs.declared.line.LineFault.TheVariants.{NoForm, NotAbove}
use Rattle.sheet.proofs.Accepted.{GoesUp, accepted_up}
use Rattle.sheet.proofs.Forms.{line-bytes, line_long, written-length}
use Rattle.sheet.proofs.Walks.{at_first}
use Rattle.sheet.proofs.Texts.{Rises, form_good, text-accepted}
use Rattle.rescued.specs.declared.walk.Reach.{Reach}
use Rattle.rescued.specs.Stretches.{Stretch, text_of, fate_at, stretches_from, stretches_of, kept_text, cut_head, cut_line, kept_over, report_over, kept_of, report_of, laid, is_dropped, dropped, kept, cut_lines, Contiguous}
use Rattle.rescued.specs.Answers.{rescued_of, rescued_numbers}
use Rattle.rescued.specs.Places.{ahead, Stepped}
use Rattle.rescued.specs.Parts.{Parted}
use Rattle.rescued.proofs.Stretched.{none_ahead, cut-bytes, form_reach}
use Rattle.rescued.proofs.Walked.{Meant, walked}

module _ (s : List ℕ) where
  -- kept and dropped stretches, laid in their old order, are the input exactly
  pub laid_exactly : laid s (stretches_of s) ≡ s
  laid_exactly = walked s (λ w. laid s (ahead s w) ≡ drop w.at s) ends turns at_first tt
    where
      ends : (w : Walk) → length s ≤ w.at → laid s (ahead s w) ≡ drop w.at s
      ends w h = ap (laid s) (none_ahead s w h) ∙ sym (drop_of_length-le s h)

      turns : (w : Walk) → w.at < length s → (r : Reach) → Stepped s w r → Meant s w r r.fault → laid s (ahead s r.next) ≡ drop r.next.at s → laid s (ahead s w) ≡ drop w.at s
      turns w l r k m i =
          let f = k.further in
          let n : w.at + (r.next.at - w.at) ≡ r.next.at = omega arith in
          ap (laid s) k.passed
          ∙ ap (λ (x : List ℕ). take (r.next.at - w.at) (drop w.at s) ++ x) (i ∙ ap (λ (x : ℕ). drop x s) (sym n) ∙ sym (drop-drop (r.next.at - w.at) w.at s))
          ∙ take-append-drop (r.next.at - w.at) (drop w.at s)

  -- each begins where the one before it ends, the first at byte 0, and the last ends with the input
  pub in_their_places : Contiguous (length s) 0 (stretches_of s)
  in_their_places = walked s (λ w. w.at ≤ length s → Contiguous (length s) w.at (ahead s w)) ends turns at_first tt (omega arith)
    where
      ends : (w : Walk) → length s ≤ w.at → w.at ≤ length s → Contiguous (length s) w.at (ahead s w)
      ends w h l = subst (Contiguous (length s) w.at) (sym (none_ahead s w h)) (omega arith)

      turns : (w : Walk) → w.at < length s → (r : Reach) → Stepped s w r → Meant s w r r.fault → (r.next.at ≤ length s → Contiguous (length s) r.next.at (ahead s r.next))
          → w.at ≤ length s → Contiguous (length s) w.at (ahead s w)
      turns w l r k m i h = subst (Contiguous (length s) w.at) (sym k.passed) (refl, k.further, i k.inside)

  -- the kept lines as entries
  abbrev kept_entry : Option LineFault → Entry → List Entry → List Entry
  kept_entry None e es = e ∷ es
  kept_entry (Some _) e es = es

  abbrev entries : List Stretch → List Entry
  entries [] = []
  entries (x ∷ xs) = kept_entry x.fault (line_at s x.start) (entries xs)

  abbrev Risen : Walk → Type 0
  Risen w = Rises (key_before s w.last) (entries (ahead s w)) × (sheet_text (entries (ahead s w)) ≡ kept_over s (ahead s w))

  -- a form's line is its entry written out
  line-text : (at : ℕ) → is_form (drop at s) ≡ true → take (value_end s at + 3 - at) (drop at s) ≡ written (line_at s at)
  line-text at h =
      let w = written (line_at s at) in
      let n : length w ≡ value_end s at + 3 - at = rw (written-length (line_at s at)) (omega arith) in
      ap (take (value_end s at + 3 - at)) (line-bytes s at h) ∙ take_at w (drop (length w) (drop at s)) (value_end s at + 3 - at) n

  risen : Risen at_first
  unfolding kept_over
  risen = walked s Risen ends turns at_first tt
    where
      ends : (w : Walk) → length s ≤ w.at → Risen w
      ends w h = subst (λ (xs : List Stretch). Rises (key_before s w.last) (entries xs) × (sheet_text (entries xs) ≡ kept_over s xs)) (sym (none_ahead s w h)) (tt, refl)

      -- by what becomes of the line
      on : (w : Walk) (at : ℕ) (next : Walk) (f : Option LineFault) → Meant s w (record { fault = f; next = next }) f → Risen next
          → Rises (key_before s w.last) (entries (record { start = w.at; end = next.at; fault = f } ∷ ahead s next))
          × (sheet_text (entries (record { start = w.at; end = next.at; fault = f } ∷ ahead s next)) ≡ kept_over s (record { start = w.at; end = next.at; fault = f } ∷ ahead s next))
      on w at next None m i =
          let k : key_before s next.last ≡ key (line_at s w.at) = ap (λ (x : Walk). key_before s x.last) m.2 in
          let e : take (next.at - w.at) (drop w.at s) ≡ written (line_at s w.at) =
          ap (λ (x : Walk). take (x.at - w.at) (drop w.at s)) m.2 ∙ line-text w.at m.0 in (
            (form_good (drop w.at s) m.0, m.1, subst (λ (x : List ℕ). Rises x (entries (ahead s next))) k i.0),
            ap (λ (x : List ℕ). written (line_at s w.at) ++ x) i.1 ∙ ap (λ (x : List ℕ). x ++ kept_over s (ahead s next)) (sym e),
          )
      on w at next (Some NoForm) m i = (subst (λ (x : Option ℕ). Rises (key_before s x) (entries (ahead s next))) m.1 i.0, i.1)
      on w at next (Some NotAbove) m i = (subst (λ (x : Option ℕ). Rises (key_before s x) (entries (ahead s next))) m.2 i.0, i.1)

      turns : (w : Walk) → w.at < length s → (r : Reach) → Stepped s w r → Meant s w r r.fault → Risen r.next → Risen w
      turns w l r k m i =
          subst (λ (xs : List Stretch). Rises (key_before s w.last) (entries xs) × (sheet_text (entries xs) ≡ kept_over s xs)) (sym k.passed)
          (on w w.at r.next r.fault m i)

  -- a kept text is no longer than its stretch
  kept_less : (f : Option LineFault) (t : List ℕ) → length (kept_text f t) ≤ length t
  kept_less None t = omega arith
  kept_less (Some _) t = omega arith

  over_less : (xs : List Stretch) → length (kept_over s xs) ≤ length (laid s xs)
  unfolding kept_over
  over_less [] = omega arith
  over_less (x ∷ xs) =
      let a = kept_less x.fault (text_of s x) in
      let b = over_less xs in
      simp length-append (omega arith)

  -- as many bytes as the sheet has are always enough for the kept one
  pub kept-size : length (kept_of s) ≤ length s
  kept-size = omega (arith, over_less (stretches_of s), ap length laid_exactly)

  -- the outcome is always accepted
  pub kept-accepted : length s ≤ sheet_limit → sheet_check (kept_of s) ≡ Ok tt
  kept-accepted h =
      subst (λ (x : List ℕ). sheet_check x ≡ Ok tt) risen.1 (text-accepted (entries (stretches_of s)) risen.0 (omega (arith, ap length risen.1, kept-size)))

  -- a good sheet comes out unchanged with no report line
  all_kept : (last places : List ℕ) → GoesUp s last places → (kept_over s (stretches_from s last places) ≡ laid s (stretches_from s last places)) × (report_over (stretches_from s last places) ≡ [])
  unfolding stretches_from kept_over report_over cut_line fate_at
  all_kept last [] g = (refl, refl)
  all_kept last (at ∷ places) g =
      let i = all_kept (key (line_at s at)) places g.2 in
      (rw (g.0, g.1, i.0), rw (g.0, g.1, i.1))

  pub good_unchanged : sheet_check s ≡ Ok tt → (kept_of s ≡ s) × (report_of s ≡ [])
  good_unchanged h = let a = all_kept [] (starts_of s) (accepted_up s h) in (a.0 ∙ laid_exactly, a.1)

  -- and no other sheet has no report line
  cut-some : (start size : ℕ) (f : Option LineFault) (rest : List ℕ) → cut_line start size f ++ rest ≡ [] → (f ≡ None) × (rest ≡ [])
  unfolding cut_line
  cut-some start size None rest e = (refl, e)
  cut-some start size (Some NoForm) rest e = let z : length (cut_head start size (0x20 ∷ 0x66 ∷ 0x6F ∷ 0x72 ∷ 0x6D ∷ 0x29 ∷ 0x0A ∷ []) ++ rest) ≡ 0 = ap length e in absurd (omega arith)
  cut-some start size (Some NotAbove) rest e = let z : length (cut_head start size (0x20 ∷ 0x6F ∷ 0x72 ∷ 0x64 ∷ 0x65 ∷ 0x72 ∷ 0x29 ∷ 0x0A ∷ []) ++ rest) ≡ 0 = ap length e in absurd (omega arith)

  none-cut : (xs : List Stretch) → report_over xs ≡ [] → kept_over s xs ≡ laid s xs
  unfolding report_over kept_over
  none-cut [] e = refl
  none-cut (x ∷ xs) e =
      let c = cut-some x.start (x.end - x.start) x.fault (report_over xs) e in
      ap (λ (f : Option LineFault). kept_text f (text_of s x) ++ kept_over s xs) c.0 ∙ ap (λ (y : List ℕ). text_of s x ++ y) (none-cut xs c.1)

  pub none_exactly : length s ≤ sheet_limit → (report_of s ≡ []) ↔ (sheet_check s ≡ Ok tt)
  none_exactly h = (λ e. subst (λ (x : List ℕ). sheet_check x ≡ Ok tt) (none-cut (stretches_of s) e ∙ laid_exactly) (kept-accepted h), λ a. (good_unchanged a).1)

  -- 19 times as many bytes as the sheet has are always enough for the report
  pub report_size : length s ≤ sheet_limit → length (report_of s) ≤ 19 * length s
  unfolding report_over
  report_size h = let r : length (report_of s) ≤ 19 * (length s - 0) = walked s (λ w. length (report_over (ahead s w)) ≤ 19 * (length s - w.at)) ends turns at_first tt in omega arith
    where
      ends : (w : Walk) → length s ≤ w.at → length (report_over (ahead s w)) ≤ 19 * (length s - w.at)
      ends w l = subst (λ (xs : List Stretch). length (report_over xs) ≤ 19 * (length s - w.at)) (sym (none_ahead s w l)) (omega arith)

      long : (w : Walk) (r : Reach) → Stepped s w r → (f : Option LineFault) → Meant s w r f → f ≡ Some NotAbove → 10 ≤ r.next.at - w.at
      long w r k None m e = let z : ◌≡◌ {A = ℕ} 0 1 = cc in absurd (omega arith)
      long w r k (Some NoForm) m e = let z : ◌≡◌ {A = ℕ} 0 1 = cc in absurd (omega arith)
      long w r k (Some NotAbove) m e = let n = form_reach s w r k m.0 in let l = line_long s w.at m.0 in omega arith

      turns : (w : Walk) → w.at < length s → (r : Reach) → Stepped s w r → Meant s w r r.fault → length (report_over (ahead s r.next)) ≤ 19 * (length s - r.next.at)
          → length (report_over (ahead s w)) ≤ 19 * (length s - w.at)
      turns w l r k m i =
          let f = k.further in
          let g = k.inside in
          let c = cut-bytes w.at (r.next.at - w.at) (omega arith) (omega arith) (omega arith) r.fault (long w r k r.fault m) in
          let e : length (report_over (ahead s w)) ≡ length (cut_line w.at (r.next.at - w.at) r.fault) + length (report_over (ahead s r.next)) =
          ap (λ (xs : List Stretch). length (report_over xs)) k.passed ∙ length-append (cut_line w.at (r.next.at - w.at) r.fault) (report_over (ahead s r.next)) in
          omega arith

  pub enough : length s ≤ sheet_limit → (room space : ℕ) → length s ≤ room → 19 * length s ≤ space
      → rescued_of s room space ≡ Ok (record { kept = length (kept_of s); report = length (report_of s) })
  unfolding rescued_of
  enough h room space k l =
      rw (le-ltb _ _ h, le-leb (length (kept_of s)) room (omega (arith, kept-size)), le-leb (length (report_of s)) space (omega (arith, report_size h)))

  -- 4 first, then 8 where either buffer is too short
  pub lowest : (room space : ℕ)
      → rescued_numbers (rescued_of s room space)
      ≡ lowest_numbers_of (cause_if (ltb sheet_limit (length s)) SheetTooLong ++ cause_if (ltb room (length (kept_of s)) || ltb space (length (report_of s))) OutputTooShort)
  unfolding rescued_of
  lowest room space = by (ltb sheet_limit (length s)) (leb (length (kept_of s)) room) (leb (length (report_of s)) space) refl refl
    where
      turned : (a b : ℕ) (c : Bool) → leb a b ≡ c → ltb b a ≡ not c
      turned a b true e = le-ltb b a (leb-true a b e)
      turned a b false e = lt-ltb b a (leb-false a b e)

      by : (a b c : Bool) → leb (length (kept_of s)) room ≡ b → leb (length (report_of s)) space ≡ c
          → rescued_numbers (pick a (Err SheetTooLong) (pick (b && c) (Ok (record { kept = length (kept_of s); report = length (report_of s) })) (Err OutputTooShort)))
          ≡ lowest_numbers_of (cause_if a SheetTooLong ++ cause_if (ltb room (length (kept_of s)) || ltb space (length (report_of s))) OutputTooShort)
      by true true true p q = rw (turned _ _ true p, turned _ _ true q)
      by true true false p q = rw (turned _ _ true p, turned _ _ false q)
      by true false c p q = rw (turned _ _ false p)
      by false true true p q = rw (turned _ _ true p, turned _ _ true q)
      by false true false p q = rw (turned _ _ true p, turned _ _ false q)
      by false false c p q = rw (turned _ _ false p)

-- what is reported are the dropped stretches and nothing else, and what is kept are the others
pub report_dropped : (xs : List Stretch) → report_over xs ≡ cut_lines (dropped xs)
unfolding report_over cut_line
report_dropped [] = refl
report_dropped (x ∷ xs) = by x.fault (report_dropped xs)
  where
    by : (f : Option LineFault) → report_over xs ≡ cut_lines (dropped xs)
        → cut_line x.start (x.end - x.start) f ++ report_over xs ≡ cut_lines (pick (is_dropped f) (record { start = x.start; end = x.end; fault = f } ∷ dropped xs) (dropped xs))
    by None e = e
    by (Some fault) e = ap (λ (y : List ℕ). cut_line x.start (x.end - x.start) (Some fault) ++ y) e

pub kept-laid : (s : List ℕ) (xs : List Stretch) → kept_over s xs ≡ laid s (kept xs)
unfolding kept_over
kept-laid s [] = refl
kept-laid s (x ∷ xs) = by x.fault (kept-laid s xs)
  where
    by : (f : Option LineFault) → kept_over s xs ≡ laid s (kept xs) → kept_text f (text_of s x) ++ kept_over s xs ≡ laid s (pick (is_dropped f) (kept xs) (x ∷ kept xs))
    by None e = ap (λ (y : List ℕ). text_of s x ++ y) e
    by (Some _) e = e

pub dropped_exactly : (x : Stretch) (xs : List Stretch) → Memᴰ x (dropped xs) ↔ (Memᴰ x xs × (is_dropped x.fault ≡ true))
dropped_exactly x xs = (from xs, λ m. to xs m.0 m.1)
  where
    from : (xs : List Stretch) → Memᴰ x (dropped xs) → Memᴰ x xs × (is_dropped x.fault ≡ true)
    from [] m = absurd (Memᴰ.not-nil m)
    from (y ∷ ys) m = on (is_dropped y.fault) refl m (from ys)
      where
        on : (b : Bool) → is_dropped y.fault ≡ b → Memᴰ x (pick b (y ∷ dropped ys) (dropped ys)) → (Memᴰ x (dropped ys) → Memᴰ x ys × (is_dropped x.fault ≡ true))
            → Memᴰ x (y ∷ ys) × (is_dropped x.fault ≡ true)
        on true e m rest =
            ⊎_elim (λ p. (Memᴰ.head p, ap (λ (z : Stretch). is_dropped z.fault) p ∙ e)) (λ k. let r = rest k in (Memᴰ.tail r.0, r.1)) (Memᴰ.cases_cons m)
        on false e m rest = let r = rest m in (Memᴰ.tail r.0, r.1)

    to : (xs : List Stretch) → Memᴰ x xs → is_dropped x.fault ≡ true → Memᴰ x (dropped xs)
    to [] m d = absurd (Memᴰ.not-nil m)
    to (y ∷ ys) m d = on (is_dropped y.fault) refl (Memᴰ.cases_cons m) (λ k. to ys k d)
      where
        on : (b : Bool) → is_dropped y.fault ≡ b → (x ≡ y) ⊎ Memᴰ x ys → (Memᴰ x ys → Memᴰ x (dropped ys)) → Memᴰ x (pick b (y ∷ dropped ys) (dropped ys))
        on true e (inl p) rest = Memᴰ.head p
        on true e (inr k) rest = Memᴰ.tail (rest k)
        on false e (inl p) rest = let z : true ≡ false = sym d ∙ ap (λ (w : Stretch). is_dropped w.fault) p ∙ e in let y : ◌≡◌ {A = ℕ} 0 1 = cc in absurd (omega arith)
        on false e (inr k) rest = rest k

-- the parts of a report, from byte 0 on, are the report: what is written of the first and the report from there on
pub first_part : (s old out : List ℕ) (v : Walk) (n : ℕ) → Parted s at_first v old out n → take n out ++ report_over (ahead s v) ≡ report_of s
first_part s old out v n p = p.joined

pub last-part : (s old out : List ℕ) (w v : Walk) (n : ℕ) → Parted s w v old out n → length s ≤ v.at → take n out ≡ report_over (ahead s w)
unfolding report_over
last-part s old out w v n p h = sym (append-nil (take n out)) ∙ ap (λ (x : List ℕ). take n out ++ x) (sym (ap report_over (none_ahead s v h))) ∙ p.joined
