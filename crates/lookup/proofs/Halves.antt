-- Why a search by halves is right: the lines go up, so that one look at a line settles all lines on one side of it.
-- The rounds of a search, and what its answer says, rest on it. Assumes nothing.
use Rattle.std.specs.Prelude.{None, Option, Some}
use mathlib.Core.Path.{◌≡◌, refl, sym, ap, ◌∙◌}
use mathlib.Core.Bool.{Bool, true, false}
use mathlib.Core.List.{List, [], ◌∷◌, map, Memᴰ}
use Prim.Native.Nat.{ℕ, zero, suc, ◌-◌, ◌≤◌, ◌<◌}
use native.Mathlib.Omega.{arith}
use lib.ListN.{length, take, drop, get_or, length-take}
use lib.Seq.{take_all, get_or-take}
use Rattle.runs.specs.Runs.{pick, same_text, cmp}
use Rattle.std.specs.declared.cmp.Ordering.{Ordering}
use Rattle.std.specs.declared.cmp.Ordering.TheVariants.{Less, Equal, Greater}
use Rattle.runs.proofs.Ordered.{Stand, stand, cmp_trans, cmp_turned, cmp_equal, same_cmp, same_true, is_equal, turned}
use Rattle.sheet.specs.Forms.{key}
use Rattle.sheet.specs.Lines.{line_at}
use Rattle.sheet.specs.Replies.{Reply, reply_in}
use Rattle.lookup.specs.Search.{place_in, answer_at}
use Rattle.sheet.proofs.Accepted.{GoesUp, up_above, up_take}

module _ (s q : List ℕ) where
  -- a line that is not the question's is passed over, and the question's line is the answer
  place_other : (at : ℕ) (places : List ℕ) (o : Ordering) → cmp (key (line_at s at)) q ≡ o → is_equal o ≡ false →
      place_in s (at ∷ places) q ≡ place_in s places q
  place_other at places o e f = rw (same_cmp (key (line_at s at)) q, e, f)

  place_this : (at : ℕ) (places : List ℕ) → cmp (key (line_at s at)) q ≡ Equal → place_in s (at ∷ places) q ≡ Some at
  place_this at places e = rw (same_cmp (key (line_at s at)) q, e)

  -- no line above the question is its line
  place_none : (last places : List ℕ) → GoesUp s last places → cmp q last ≡ Less → place_in s places q ≡ None
  place_none last [] g h = refl
  place_none last (at ∷ places) g h =
      let k : cmp q (key (line_at s at)) ≡ Less = cmp_trans q last _ h g.1 in
      place_other at places Greater (cmp_turned q _ ∙ ap turned k) refl ∙ place_none (key (line_at s at)) places g.2 k

  pub place_up : (last places : List ℕ) (m : ℕ) → GoesUp s last places → m < length places →
      cmp (key (line_at s (get_or places m 0))) q ≡ Less → place_in s places q ≡ place_in s (drop (suc m) places) q
  place_up last [] m g h e = absurd (omega arith)
  place_up last (at ∷ places) zero g h e = place_other at places Less e refl
  place_up last (at ∷ places) (suc m) g h e =
      let k = cmp_trans (key (line_at s at)) (key (line_at s (get_or places m 0))) q (up_above s (key (line_at s at)) places m g.2 (omega arith)) e in
      place_other at places Less k refl
      ∙ place_up (key (line_at s at)) places m g.2 (omega arith) e

  pub place_down : (last places : List ℕ) (m : ℕ) → GoesUp s last places → m < length places →
      cmp (key (line_at s (get_or places m 0))) q ≡ Greater → place_in s places q ≡ place_in s (take m places) q
  place_down last [] m g h e = absurd (omega arith)
  place_down last (at ∷ places) zero g h e =
      place_other at places Greater e refl
      ∙ place_none (key (line_at s at)) places g.2 (cmp_turned (key (line_at s at)) q ∙ ap turned e)
  place_down last (at ∷ places) (suc m) g h e =
      ap (λ (r : Option ℕ). pick (same_text (key (line_at s at)) q) (Some at) r) (place_down (key (line_at s at)) places m g.2 (omega arith) e)

  pub place_here : (last places : List ℕ) (m : ℕ) → GoesUp s last places → m < length places →
      cmp (key (line_at s (get_or places m 0))) q ≡ Equal → place_in s places q ≡ Some (get_or places m 0)
  place_here last [] m g h e = absurd (omega arith)
  place_here last (at ∷ places) zero g h e = place_this at places e
  place_here last (at ∷ places) (suc m) g h e =
      let z : key (line_at s (get_or places m 0)) ≡ q = cmp_equal _ q e in
      let k : cmp (key (line_at s at)) q ≡ Less =
      ap (λ (x : List ℕ). cmp (key (line_at s at)) x) (sym z) ∙ up_above s (key (line_at s at)) places m g.2 (omega arith) in
      place_other at places Less k refl ∙ place_here (key (line_at s at)) places m g.2 (omega arith) e

  -- the question's line stands among those from number lo on, before number hi, where the line before them stands below the question and
  -- the line behind them above
  pub place_left : (places : List ℕ) → GoesUp s [] places → (lo hi : ℕ) → lo ≤ hi → hi ≤ length places
      → (0 < lo → cmp (key (line_at s (get_or places (lo - 1) 0))) q ≡ Less) → (hi < length places → cmp (key (line_at s (get_or places hi 0))) q ≡ Greater)
      → place_in s places q ≡ place_in s (drop lo (take hi places)) q
  place_left places up lo hi o l below above = upper (stand hi (length places)) ∙ lower lo refl
    where
      upper : Stand hi (length places) → place_in s places q ≡ place_in s (take hi places) q
      upper (Stand.below k) = place_down [] places hi up k (above k)
      upper (Stand.above k) = absurd (omega arith)
      upper (Stand.alike k) = ap (λ (l : List ℕ). place_in s l q) (sym (take_all hi places (omega arith)))

      lower : (n : ℕ) → lo ≡ n → place_in s (take hi places) q ≡ place_in s (drop n (take hi places)) q
      lower zero e = refl
      lower (suc n) e =
          let m : lo - 1 ≡ n = omega arith in
          let b : cmp (key (line_at s (get_or places n 0))) q ≡ Less = ap (λ (x : ℕ). cmp (key (line_at s (get_or places x 0))) q) (sym m) ∙ below (omega arith) in
          let w : get_or (take hi places) n 0 ≡ get_or places n 0 = get_or-take hi places n 0 (omega arith) in
          let h : n < length (take hi places) = simp length-take (omega arith) in
          place_up [] (take hi places) n (up_take s [] hi places up) h (ap (λ (y : ℕ). cmp (key (line_at s y)) q) w ∙ b)

  -- the line found replies what the list of the lines replies, and has the question's key
  pub place_replies : (places : List ℕ) → answer_at s (place_in s places q) ≡ reply_in (map (line_at s) places) q
  place_replies [] = refl
  place_replies (at ∷ places) = go (same_text (key (line_at s at)) q) (place_replies places)
    where
      go : (b : Bool) → answer_at s (place_in s places q) ≡ reply_in (map (line_at s) places) q →
          answer_at s (pick b (Some at) (place_in s places q)) ≡ pick b (Reply.told (line_at s at).value) (reply_in (map (line_at s) places) q)
      go true r = refl
      go false r = r

  pub place_asks : (places : List ℕ) (at : ℕ) → place_in s places q ≡ Some at → Memᴰ at places × (key (line_at s at) ≡ q)
  place_asks [] at e = let z : ◌≡◌ {A = ℕ} 0 1 = cc in absurd (omega arith)
  place_asks (a ∷ places) at e = go (same_text (key (line_at s a)) q) refl (place_asks places at) e
    where
      go : (b : Bool) → same_text (key (line_at s a)) q ≡ b →
          (place_in s places q ≡ Some at → Memᴰ at places × (key (line_at s at) ≡ q)) →
          pick b (Some a) (place_in s places q) ≡ Some at → Memᴰ at (a ∷ places) × (key (line_at s at) ≡ q)
      go true f rest e =
          let p : at ≡ a = cc in
          (Memᴰ.head p, ap (λ (x : ℕ). key (line_at s x)) p ∙ same_true (key (line_at s a)) q f)
      go false f rest e = let r = rest e in (Memᴰ.tail r.0, r.1)
