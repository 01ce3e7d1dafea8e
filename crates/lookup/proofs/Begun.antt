-- Lines whose names begin alike: the order of a line and a head is its order to every name that begins so, and such lines stand
-- together. The proofs of `begins` cite it. Assumes nothing.
use Rattle.std.specs.Prelude.{None, Some}
use mathlib.Core.Path.{◌≡◌, refl, sym, ap, subst, ◌∙◌}
use mathlib.Core.Bool.{Bool, true, false}
use mathlib.Core.List.{List, [], ◌∷◌, ◌++◌}
use Prim.Native.Nat.{ℕ, ◌+◌, ◌-◌, ◌≤◌, ◌<◌}
use native.Mathlib.Omega.{arith}
use lib.ListN.{length, take, drop, get_or, length-append, length-drop, length-take}
use Rattle.runs.specs.Runs.{pick, same_text, cmp}
use Rattle.std.specs.declared.cmp.Ordering.{Ordering}
use Rattle.std.specs.declared.cmp.Ordering.TheVariants.{Less, Equal, Greater}
use Rattle.runs.proofs.Ordered.{Stand, stand, and_then, cmp_refl, cmp_trans, cmp_turned, turned, same_true}
use Rattle.runs.proofs.Ends.{same_lengths}
use Rattle.sheet.specs.Forms.{key, key_of}
use Rattle.sheet.specs.Lines.{line_at}
use Rattle.sheet.specs.Replies.{Reply, reply, Indexed}
use Rattle.lookup.specs.declared.begins.Edge.{Edge}
use Rattle.lookup.specs.declared.begins.Range.{Range}
use Rattle.lookup.specs.Search.{place_in}
use Rattle.lookup.specs.Begins.{headed_at, Begun, Edged, Ended}
use Rattle.sheet.specs.Keys.{headed}
use Rattle.sheet.proofs.Spaced.{head-parts}
use Rattle.sheet.proofs.Accepted.{GoesUp, accepted_up, up_pair}
use Rattle.lookup.proofs.Halves.{place_left}
use Rattle.lookup.proofs.Rounds.{empty_place}
use Rattle.lookup.proofs.Settled.{sought_placed}

-- of two names the upper stands to the head no lower than the lower does
module _ (a b k : List ℕ) (l : cmp a b ≡ Less) where
  pub head-below : headed b k ≡ Less → headed a k ≡ Less
  head-below h = go (headed a k) refl
    where
      go : (o : Ordering) → headed a k ≡ o → headed a k ≡ Less
      go Less e = e
      go Equal e =
          let q = drop (length k) a in
          let f : cmp b (k ++ q) ≡ Less = head-parts b k q ∙ ap (λ (y : Ordering). and_then y (cmp (drop (length k) b) q)) h in
          let g : cmp a (k ++ q) ≡ Equal = head-parts a k q ∙ ap (λ (y : Ordering). and_then y (cmp q q)) e ∙ cmp_refl q in
          let t : Equal ≡ Less = sym g ∙ cmp_trans a b _ l f in
          let z : ◌≡◌ {A = ℕ} 0 1 = cc in absurd (omega arith)
      go Greater e =
          let f : cmp b (k ++ []) ≡ Less = head-parts b k [] ∙ ap (λ (y : Ordering). and_then y (cmp (drop (length k) b) [])) h in
          let g : cmp a (k ++ []) ≡ Greater = head-parts a k [] ∙ ap (λ (y : Ordering). and_then y (cmp (drop (length k) a) [])) e in
          let t : Greater ≡ Less = sym g ∙ cmp_trans a b _ l f in
          let z : ◌≡◌ {A = ℕ} 0 1 = cc in absurd (omega arith)

  pub head-above : headed a k ≡ Greater → headed b k ≡ Greater
  head-above h = go (headed b k) refl
    where
      above : (q : List ℕ) → cmp b (k ++ q) ≡ Greater
      above q =
          let f : cmp a (k ++ q) ≡ Greater = head-parts a k q ∙ ap (λ (y : Ordering). and_then y (cmp (drop (length k) a) q)) h in
          let g : cmp (k ++ q) b ≡ Less = cmp_trans (k ++ q) a b (cmp_turned a (k ++ q) ∙ ap turned f) l in
          cmp_turned (k ++ q) b ∙ ap turned g

      go : (o : Ordering) → headed b k ≡ o → headed b k ≡ Greater
      go Less e =
          let g : cmp b (k ++ []) ≡ Less = head-parts b k [] ∙ ap (λ (y : Ordering). and_then y (cmp (drop (length k) b) [])) e in
          let t : Less ≡ Greater = sym g ∙ above [] in
          let z : ◌≡◌ {A = ℕ} 0 1 = cc in absurd (omega arith)
      go Equal e =
          let q = drop (length k) b in
          let g : cmp b (k ++ q) ≡ Equal = head-parts b k q ∙ ap (λ (y : Ordering). and_then y (cmp q q)) e ∙ cmp_refl q in
          let t : Equal ≡ Greater = sym g ∙ above q in
          let z : ◌≡◌ {A = ℕ} 0 1 = cc in absurd (omega arith)
      go Greater e = e

module _ (s : List ℕ) (letter : ℕ) (head : List ℕ) where
  -- the order of a line and the head, where x is what was found, is its order to each name that begins so
  pub head_decides : (at : ℕ) (q : List ℕ) (x o : Ordering) → x ≡ headed (key (line_at s at)) (key_of letter head) → x ≡ o →
      and_then o (cmp (drop (length (key_of letter head)) (key (line_at s at))) q) ≡ cmp (key (line_at s at)) (key_of letter (head ++ q))
  head_decides at q x o e f =
      sym (head-parts (key (line_at s at)) (key_of letter head) q
      ∙ ap (λ (y : Ordering). and_then y (cmp (drop (length (key_of letter head)) (key (line_at s at))) q)) (sym e ∙ f))

  module _ (starts : List ℕ) (x : Indexed s starts) where
    pub up : GoesUp s [] starts
    up = subst (λ (l : List ℕ). GoesUp s [] l) (sym x.listed) (accepted_up s x.accepted)

    pair : (i j : ℕ) → i < j → j < length starts → cmp (key (line_at s (get_or starts i 0))) (key (line_at s (get_or starts j 0))) ≡ Less
    pair i j h l = up_pair s [] starts i j up h l

    -- a line behind one that is not below is not below, and a line before one that is not above is not above
    later : (i j : ℕ) → i ≤ j → j < length starts → headed_at s starts letter head j ≡ Less → headed_at s starts letter head i ≡ Less
    later i j h l e = go (stand i j)
      where
        go : Stand i j → headed_at s starts letter head i ≡ Less
        go (Stand.below k) = head-below (key (line_at s (get_or starts i 0))) (key (line_at s (get_or starts j 0))) (key_of letter head) (pair i j k l) e
        go (Stand.above k) = absurd (omega arith)
        go (Stand.alike k) = ap (headed_at s starts letter head) k ∙ e

    sooner : (i j : ℕ) → i ≤ j → j < length starts → headed_at s starts letter head i ≡ Greater → headed_at s starts letter head j ≡ Greater
    sooner i j h l e = go (stand i j)
      where
        go : Stand i j → headed_at s starts letter head j ≡ Greater
        go (Stand.below k) = head-above (key (line_at s (get_or starts i 0))) (key (line_at s (get_or starts j 0))) (key_of letter head) (pair i j k l) e
        go (Stand.above k) = absurd (omega arith)
        go (Stand.alike k) = ap (headed_at s starts letter head) (sym k) ∙ e

    -- the lines from the first that is not below up to the first that is above are just those that begin so
    pub ranged : (e : Edge) (hi : ℕ) → Edged s starts letter head e → Ended s starts letter head e.lo e.top hi →
        Begun s starts letter head (record { lo = e.lo; hi = hi })
    ranged e hi d n = record {
      ordered = n.from;
      inside = omega (arith, d.inside, n.upto);
      below = d.below;
      each = λ i a b. go i a b (headed_at s starts letter head i) refl;
      above = λ l. top l (stand hi e.top);
    }
      where
        go : (i : ℕ) → e.lo ≤ i → i < hi → (o : Ordering) → headed_at s starts letter head i ≡ o → headed_at s starts letter head i ≡ Equal
        go i a b Less f = absurd (d.first (omega (arith, d.inside, n.upto)) (later e.lo i a (omega (arith, d.inside, n.upto)) f))
        go i a b Equal f = f
        go i a b Greater f = absurd (n.last (omega arith) (sooner i (hi - 1) (omega arith) (omega (arith, d.inside, n.upto)) f))

        top : hi < length starts → Stand hi e.top → headed_at s starts letter head hi ≡ Greater
        top l (Stand.below k) = n.above k
        top l (Stand.above k) = absurd (omega (arith, n.upto))
        top l (Stand.alike k) = let t : e.top < length starts = omega arith in ap (headed_at s starts letter head) k ∙ d.above t

    -- a question whose name begins so is asked of these lines alone
    module _ (r : Range) (g : Begun s starts letter head r) (q : List ℕ) where
      abbrev asks : List ℕ
      asks = key_of letter (head ++ q)

      order_of : (i : ℕ) (o : Ordering) → headed_at s starts letter head i ≡ o →
          and_then o (cmp (drop (length (key_of letter head)) (key (line_at s (get_or starts i 0)))) q) ≡ cmp (key (line_at s (get_or starts i 0))) asks
      order_of i o e = head_decides (get_or starts i 0) q _ o refl e

      -- the line before these stands below the question, and the line behind them above
      pub asked_below : 0 < r.lo → cmp (key (line_at s (get_or starts (r.lo - 1) 0))) asks ≡ Less
      asked_below h = sym (order_of (r.lo - 1) Less (g.below h))

      pub asked_above : r.hi < length starts → cmp (key (line_at s (get_or starts r.hi 0))) asks ≡ Greater
      asked_above h = sym (order_of r.hi Greater (g.above h))

      pub among : place_in s starts asks ≡ place_in s (drop r.lo (take r.hi starts)) asks
      among = place_left s asks starts up r.lo r.hi g.ordered g.inside asked_below asked_above

      -- such a line begins so
      pub begun_at : (i at : ℕ) → r.lo ≤ i → i < r.hi → at ≡ get_or starts i 0 → headed (key (line_at s at)) (key_of letter head) ≡ Equal
      begun_at i at a b w = ap (λ (z : ℕ). headed (key (line_at s z)) (key_of letter head)) w ∙ g.each i a b

      pub among_none : (lo hi : ℕ) → hi ≤ lo → place_in s (drop lo (take hi starts)) asks ≡ None
      among_none lo hi h = empty_place s asks (drop lo (take hi starts)) (simp (length-drop, length-take) (omega arith))

      -- where there are none, no such question has a reply
      pub none_begun : r.hi ≤ r.lo → reply s letter (head ++ q) ≡ Reply.unknown
      none_begun h = sym (sought_placed s starts letter (head ++ q) None x (sym (among ∙ among_none r.lo r.hi h))).answers

    -- where there is at most one such line and a question has a reply, no question of another length has one
    module _ (r : Range) (g : Begun s starts letter head r) (h : r.hi ≤ r.lo + 1) (p q : List ℕ) (d : length p ≡ length q → ⊥) where
      one_line : (es : List ℕ) → length es ≤ 1 → (place_in s es (key_of letter (head ++ p)) ≡ None → ⊥) → place_in s es (key_of letter (head ++ q)) ≡ None
      one_line [] l k = refl
      one_line (at ∷ b ∷ es) l k = absurd (omega arith)
      one_line (at ∷ []) l k = by (same_text (key (line_at s at)) (key_of letter (head ++ p))) refl
        where
          by : (y : Bool) → same_text (key (line_at s at)) (key_of letter (head ++ p)) ≡ y → place_in s (at ∷ []) (key_of letter (head ++ q)) ≡ None
          by false e = absurd (k (ap (λ (y : Bool). pick y (Some at) None) e))
          by true e =
              let f : same_text (key (line_at s at)) (key_of letter (head ++ q)) ≡ false =
              ap (λ (n : List ℕ). same_text n (key_of letter (head ++ q))) (same_true (key (line_at s at)) (key_of letter (head ++ p)) e)
              ∙ same_lengths (key_of letter (head ++ p)) (key_of letter (head ++ q)) (λ z. d (omega (arith, z, length-append head p, length-append head q))) in
              ap (λ (y : Bool). pick y (Some at) None) f

      pub alone_begun : (reply s letter (head ++ p) ≡ Reply.unknown → ⊥) → reply s letter (head ++ q) ≡ Reply.unknown
      alone_begun k =
          let es = drop r.lo (take r.hi starts) in
          let few : length es ≤ 1 = simp (length-drop, length-take) (omega (arith, g.inside)) in
          let unplaced : place_in s es (key_of letter (head ++ p)) ≡ None → ⊥ =
          λ e. k (sym (sought_placed s starts letter (head ++ p) None x (sym (among r g p ∙ e))).answers) in
          sym (sought_placed s starts letter (head ++ q) None x (sym (among r g q ∙ one_line es few unplaced))).answers
