-- One stretch of a torn sheet after the other: where it ends, what becomes of it, and what is to come. The proofs of walk.rt and entry.rt
-- cite these. Assumes nothing.
use Rattle.std.specs.Prelude.{Option, Some, None, Result, Ok, Err}
use Prim.Native.Nat.{ℕ, suc, ◌+◌, ◌-◌, ◌*◌, ◌<◌, ◌≤◌, min}
use native.Mathlib.Omega.{arith}
use mathlib.Core.Path.{◌≡◌, refl, sym, ap, subst, ◌∙◌}
use mathlib.Core.Bool.{Bool, true, false}
use mathlib.Core.List.{List, [], ◌∷◌, ◌++◌}
use lib.ListN.{length, take, drop, get_or, length-append, length-drop}
use lib.Seq.{drop-cons, drop-drop, take-length}
use lib.Dec.{eqb, leb, ltb}
use borrow.Author.Tests.{leb-true, ltb-true, ltb-false}
use Rattle.runs.specs.Bytes.{index_of, index_after, slice}
use Rattle.runs.specs.Runs.{pick, cmp, is_less}
use Rattle.sheet.specs.Forms.{is_form, key}
use Rattle.sheet.specs.Lines.{starts_from, line_at}
use Rattle.sheet.specs.Steps.{value_end}
use Rattle.sheet.specs.Walks.{key_before, Standing, starts_ahead, form_reached, reached}
use Rattle.sheet.specs.declared.walk.Walk.{Walk}
use Rattle.sheet.specs.declared.line.Form.{Form}
use Rattle.sheet.specs.declared.line.LineFault.{LineFault}
use Rattle.sheet.specs.declared.line.LineFault.TheVariants as step
use Rattle.sheet.proofs.Forms.{line-fits, line_long}
use Rattle.sheet.proofs.Lines.{no_lines, some-line, next_line}
use Rattle.writing.proofs.Sizes.{digit-size, number_size}
use Rattle.rescued.specs.declared.walk.Reach.{Reach}
use Rattle.rescued.specs.Stretches.{Stretch, fate_at, last_after, end_before, stretches_from, kept_text, cut_head, cut_line, kept_over, report_over}
use Rattle.rescued.specs.Places.{line_end, dropped_at, ahead, Stepped}

-- how many bytes there are up to the first 0A and with it
abbrev feed : List ℕ → ℕ
feed t = min (index_of 0x0A t + 1) (length t)

feed_next : (b : ℕ) (t : List ℕ) → eqb b 0x0A ≡ false → feed (b ∷ t) ≡ suc (feed t)
unfolding index_of index_after
feed_next b t e = rw e (omega arith)

feed_here : (b : ℕ) (t : List ℕ) → eqb b 0x0A ≡ true → feed (b ∷ t) ≡ 1
unfolding index_of index_after
feed_here b t e = rw e (omega arith)

one_next : (b : ℕ) (t : List ℕ) (n : ℕ) → starts_from false (suc n) t ≡ starts_from true (suc n + feed t) (drop (feed t) t)
    → starts_from (eqb b 0x0A) (suc n) t ≡ starts_from true (n + feed (b ∷ t)) (drop (feed (b ∷ t)) (b ∷ t))
one_next b t n q = by (eqb b 0x0A) refl
  where
    by : (c : Bool) → eqb b 0x0A ≡ c → starts_from c (suc n) t ≡ starts_from true (n + feed (b ∷ t)) (drop (feed (b ∷ t)) (b ∷ t))
    by true e = let z : suc n ≡ n + 1 = omega arith in ap (λ (k : ℕ). starts_from true k t) z ∙ ap (λ (k : ℕ). starts_from true (n + k) (drop k (b ∷ t))) (sym (feed_here b t e))
    by false e =
        let z : suc n + feed t ≡ n + suc (feed t) = omega arith in
        q ∙ ap (λ (k : ℕ). starts_from true k (drop (feed t) t)) z ∙ ap (λ (k : ℕ). starts_from true (n + k) (drop k (b ∷ t))) (sym (feed_next b t e))

quiet_next : (t : List ℕ) (n : ℕ) → starts_from false n t ≡ starts_from true (n + feed t) (drop (feed t) t)
quiet_next [] n = let z : 0 ≡ feed [] = omega arith in ap (λ (k : ℕ). starts_from true (n + k) (drop {A = ℕ} k [])) z
quiet_next (b ∷ t) n = one_next b t n (quiet_next t (suc n))

module _ (s : List ℕ) (at : ℕ) (h : at < length s) where
  line_end_is : at + feed (drop at s) ≡ line_end s at
  line_end_is = let l = length-drop at s in omega arith

  -- the next line begins where this one ends
  pub line_next : starts_from true at (drop at s) ≡ at ∷ starts_from true (line_end s at) (drop (line_end s at) s)
  line_next =
      let d = drop-cons s at 0 h in
      let f : feed (get_or s at 0 ∷ drop (suc at) s) ≡ feed (drop at s) = ap feed (sym d) in
      some-line s at h
      ∙ ap (λ (x : List ℕ). at ∷ x)
      (one_next (get_or s at 0) (drop (suc at) s) at (quiet_next (drop (suc at) s) (suc at))
      ∙ ap (λ (x : List ℕ). starts_from true (at + feed x) (drop (feed x) x)) (sym d)
      ∙ ap (starts_from true (at + feed (drop at s))) (drop-drop (feed (drop at s)) at s)
      ∙ ap (λ (n : ℕ). starts_from true n (drop n s)) line_end_is)

  pub end-further : at < line_end s at
  end-further = omega arith

  pub end-inside : line_end s at ≤ length s
  end-inside = omega arith

-- a line ends where the lines to come begin
pub end_before_lem : (s : List ℕ) (n : ℕ) → n ≤ length s → end_before s (starts_from true n (drop n s)) ≡ n
end_before_lem s n h = by (ltb n (length s)) refl
  where
    by : (b : Bool) → ltb n (length s) ≡ b → end_before s (starts_from true n (drop n s)) ≡ n
    by true e = ap (end_before s) (some-line s n (ltb-true _ _ e))
    by false e = ap (end_before s) (no_lines s n (ltb-false _ _ e)) ∙ (let k = ltb-false n (length s) e in omega arith)

-- what becomes of a line, by what the walk reaches
module _ (s : List ℕ) (w : Walk) where
  abbrev pub Fated : Result (Option (Form Walk)) LineFault → Type 0
  Fated (Ok None) = length s ≤ w.at
  Fated (Err fault) = fate_at s (key_before s w.last) w.at ≡ Some fault
  Fated (Ok (Some form)) =
      (fate_at s (key_before s w.last) w.at ≡ None) × (is_form (drop w.at s) ≡ true) × (form.next ≡ record { at = value_end s w.at + 3; last = Some w.at })

  pub fated : (r : Result (Option (Form Walk)) LineFault) → r ≡ reached s w → Fated r
  unfolding reached fate_at
  fated r q =
      subst Fated (sym q)
      (by (leb (length s) w.at) (is_form (drop w.at s)) (is_less (cmp (key_before s w.last) (key (line_at s w.at)))) refl refl refl)
    where
      by : (b c d : Bool) → leb (length s) w.at ≡ b → is_form (drop w.at s) ≡ c → is_less (cmp (key_before s w.last) (key (line_at s w.at))) ≡ d
          → Fated (pick b (Ok None) (pick c (pick d (Ok (Some (form_reached s w))) (Err step.NotAbove)) (Err step.NoForm)))
      by true c d p q r = leb-true _ _ p
      by false true true p q r = (rw (q, r), q, refl)
      by false true false p q r = rw (q, r)
      by false false d p q r = rw q

  -- the stretches to come are this one and those from behind it on
  passed : (f : Option LineFault) (next : Walk) → starts_ahead s w ≡ w.at ∷ starts_ahead s next → next.at ≤ length s → fate_at s (key_before s w.last) w.at ≡ f
      → key_before s next.last ≡ last_after s (key_before s w.last) w.at f
      → ahead s w ≡ record { start = w.at; end = next.at; fault = f } ∷ ahead s next
  unfolding stretches_from
  passed f next e l g k =
      ap (stretches_from s (key_before s w.last)) e
      ∙ ap (λ (x : Option LineFault). record { start = w.at; end = end_before s (starts_ahead s next); fault = x } ∷ stretches_from s (last_after s (key_before s w.last) w.at x) (starts_ahead s next)) g
      ∙ ap (λ (n : ℕ). record { start = w.at; end = n; fault = f } ∷ stretches_from s (last_after s (key_before s w.last) w.at f) (starts_ahead s next)) (end_before_lem s next.at l)
      ∙ ap (λ (x : List ℕ). record { start = w.at; end = next.at; fault = f } ∷ stretches_from s x (starts_ahead s next)) (sym k)

  module _ (h : w.at < length s) (z : Standing s w.last) where
    pub at_fault : (fault : LineFault) → Err fault ≡ reached s w → Stepped s w (dropped_at s w fault)
    at_fault fault e =
        let f : fate_at s (key_before s w.last) w.at ≡ Some fault = fated (Err fault) e in
        record { further = end-further s w.at h; inside = end-inside s w.at h; standing = z; passed = passed (Some fault) (record { at = line_end s w.at; last = w.last }) (line_next s w.at h) (end-inside s w.at h) f refl }

    pub at_form : (form : Form Walk) → Ok (Some form) ≡ reached s w → Stepped s w (record { fault = None; next = form.next })
    at_form form e =
        let f : Fated (Ok (Some form)) = fated (Ok (Some form)) e in
        let i = f.1 in
        let m = line_long s w.at i in
        subst (λ (x : Walk). Stepped s w (record { fault = None; next = x })) (sym f.2)
        (record { further = omega arith; inside = line-fits s w.at i; standing = i; passed = passed None (record { at = value_end s w.at + 3; last = Some w.at }) (next_line s w.at i) (line-fits s w.at i) f.0 refl })

    pub at_end : Ok None ≡ reached s w → ⊥
    at_end e = let f : length s ≤ w.at = fated (Ok None) e in omega arith

-- what is put of a stretch, and what is to come
module _ (s : List ℕ) (w : Walk) (r : Reach) (k : Stepped s w r) where
  pub kept_turn : kept_over s (ahead s w) ≡ kept_text r.fault (take (r.next.at - w.at) (drop w.at s)) ++ kept_over s (ahead s r.next)
  unfolding kept_over
  kept_turn = ap (kept_over s) k.passed

  pub report_turn : report_over (ahead s w) ≡ cut_line w.at (r.next.at - w.at) r.fault ++ report_over (ahead s r.next)
  unfolding report_over
  report_turn = ap report_over k.passed

module _ (s : List ℕ) (w : Walk) (h : length s ≤ w.at) where
  pub none_ahead : ahead s w ≡ []
  unfolding stretches_from
  none_ahead = ap (stretches_from s (key_before s w.last)) (no_lines s w.at h)

  pub kept-end : kept_over s (ahead s w) ≡ []
  unfolding kept_over
  kept-end = ap (kept_over s) none_ahead

  pub report_end : report_over (ahead s w) ≡ []
  unfolding report_over
  report_end = ap report_over none_ahead

-- the place that the search for 0A gives
whole_slice : (s : List ℕ) (at : ℕ) → slice at (length s) s ≡ drop at s
unfolding slice
whole_slice s at = ap (drop at) (take-length s)

module _ (s : List ℕ) (at found : ℕ) (h : at < length s) (f : found ≡ at + index_of 0x0A (slice at (length s) s)) (l : found ≤ length s) where
  e : found ≡ at + index_of 0x0A (drop at s)
  e = f ∙ ap (λ (x : List ℕ). at + index_of 0x0A x) (whole_slice s at)

  pub end_behind : found < length s → found + 1 ≡ line_end s at
  end_behind k = let q = e in omega arith

  pub end_last : length s ≤ found → found ≡ line_end s at
  end_last k = let q = e in omega arith

-- how long a line of the report is
pub cut-size : (start n : ℕ) → start < 100000 → n < 100000 → (f : Option LineFault) → length (cut_line start n f) ≤ 24
unfolding cut_line
cut-size start n h k None = omega arith
cut-size start n h k (Some step.NoForm) = let a = number_size start h in let b = number_size n k in simp length-append (omega arith)
cut-size start n h k (Some step.NotAbove) = let a = number_size start h in let b = number_size n k in simp length-append (omega arith)

-- and how long for each byte of its stretch; a form has more than one
pub cut-bytes : (start n : ℕ) → start < 100000 → 1 ≤ n → n < 100000 → (f : Option LineFault) → (f ≡ Some step.NotAbove → 10 ≤ n) → length (cut_line start n f) ≤ 19 * n
unfolding cut_line
cut-bytes start n h l k None g = omega arith
cut-bytes start n h l k (Some step.NotAbove) g = let a = number_size start h in let b = number_size n k in let c = g refl in simp length-append (omega arith)
cut-bytes start n h l k (Some step.NoForm) g = by (ltb n 10) refl
  where
    by : (b : Bool) → ltb n 10 ≡ b → length (cut_head start n (0x20 ∷ 0x66 ∷ 0x6F ∷ 0x72 ∷ 0x6D ∷ 0x29 ∷ 0x0A ∷ [])) ≤ 19 * n
    by true e = let a = number_size start h in let b = digit-size n (ltb-true _ _ e) in simp length-append (omega arith)
    by false e = let a = number_size start h in let b = number_size n k in let c = ltb-false n 10 e in simp length-append (omega arith)

-- where a form stands, its stretch is its line
head_end : List Stretch → ℕ
head_end [] = 0
head_end (x ∷ xs) = x.end

pub form_reach : (s : List ℕ) (w : Walk) (r : Reach) → Stepped s w r → is_form (drop w.at s) ≡ true → r.next.at ≡ value_end s w.at + 3
unfolding head_end stretches_from
form_reach s w r k h =
    sym (ap head_end k.passed) ∙ ap (λ (x : List ℕ). head_end (stretches_from s (key_before s w.last) x)) (next_line s w.at h)
    ∙ end_before_lem s (value_end s w.at + 3) (line-fits s w.at h)
