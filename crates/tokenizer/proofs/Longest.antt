-- A token is a run between edges, and the other way round: a longest run cannot go on past a character that does not part, and no run
-- reaches over one that does. Assumes nothing.
use Prim.Native.Nat.{ℕ, ◌+◌, ◌≤◌}
use native.Mathlib.Omega.{arith}
use mathlib.Core.Path.{◌≡◌, refl, sym, ap, subst, ◌∙◌}
use mathlib.Core.Logic.{◌⊎◌, inl, inr, ⊎_elim}
use mathlib.Core.Bool.{Bool, true, false}
use mathlib.Core.List.{List, [], ◌∷◌, ◌++◌, append_assoc, append-nil}
use lib.ListN.{length}
use Rattle.tokenizer.specs.Scalars.{Character, bytes, scalar}
use Rattle.tokenizer.specs.Parting.{parts}
use Rattle.tokenizer.specs.Tokens.{Each, Run, Token}
use Rattle.text.proofs.Grammar.{no}
use Rattle.tokenizer.proofs.Parsed.{has-bytes, one_way}
use Rattle.tokenizer.proofs.Edges.{total, bytes-append, total-append, total-cons, total_nil, each_append, each_left, each_right, Plain, LeftEdge, RightEdge, Edged}

heads : {x y : List ℕ} {xs ys : List (List ℕ)} → ◌≡◌ {A = List (List ℕ)} (x ∷ xs) (y ∷ ys) → (x ≡ y) × (xs ≡ ys)
heads e = (cc, cc)

no-cons : {P : Type 0} {x : List ℕ} {xs : List (List ℕ)} → ◌≡◌ {A = List (List ℕ)} [] (x ∷ xs) → P
no-cons e = let z : ◌≡◌ {A = ℕ} 0 1 = cc in absurd (omega arith)

-- a list is empty or has a last
last_of : (us : List (List ℕ)) → (us ≡ []) ⊎ ((vs : List (List ℕ)) × (p : List ℕ) × (us ≡ vs ++ (p ∷ [])))
last_of [] = inl refl
last_of (u ∷ us) =
    ⊎_elim (λ e. inr ([], u, ap (λ (x : List (List ℕ)). u ∷ x) e)) (λ k. inr (u ∷ k.0, k.1, ap (λ (x : List (List ℕ)). u ∷ x) k.2)) (last_of us)

last_or : List ℕ → List (List ℕ) → List ℕ
last_or d [] = d
last_or d (x ∷ xs) = last_or x xs

last_is : (xs : List (List ℕ)) (d p : List ℕ) → last_or d (xs ++ (p ∷ [])) ≡ p
unfolding last_or
last_is [] d p = refl
last_is (x ∷ xs) d p = last_is xs x p

same_last : (xs ys : List (List ℕ)) (p q : List ℕ) → xs ++ (p ∷ []) ≡ ys ++ (q ∷ []) → p ≡ q
same_last xs ys p q e = sym (last_is xs [] p) ∙ ap (last_or []) e ∙ last_is ys [] q

-- of two ways to part the same characters, the one with fewer bytes in front ends first
nested : (xs ys us vs : List (List ℕ)) → Each Character xs → xs ++ ys ≡ us ++ vs → total xs ≤ total us → (ws : List (List ℕ)) × (us ≡ xs ++ ws) × (ys ≡ ws ++ vs)
nested [] ys us vs k e h = (us, refl, e)
nested (x ∷ xs) ys [] vs k e h =
    let p = total-cons x xs in
    let z = total_nil in
    let b = has-bytes x k.0 in
    absurd (omega arith)
nested (x ∷ xs) ys (u ∷ us) vs k e h =
    let q = heads e in
    let l : length x ≡ length u = ap length q.0 in
    let p = total-cons x xs in
    let o = total-cons u us in
    let n = nested xs ys us vs k.1 q.1 (omega arith) in
    (n.0, both (sym q.0) n.1, n.2)
  where
    both : {a b : List ℕ} {xs ys : List (List ℕ)} → a ≡ b → xs ≡ ys → ◌≡◌ {A = List (List ℕ)} (a ∷ xs) (b ∷ ys)
    both p q = cc

-- characters as three stretches
three_bytes : (us ms vs : List (List ℕ)) → bytes (us ++ (ms ++ vs)) ≡ bytes us ++ (bytes ms ++ bytes vs)
three_bytes us ms vs = bytes-append us (ms ++ vs) ∙ ap (λ (x : List ℕ). bytes us ++ x) (bytes-append ms vs)

module _ {s : List ℕ} {a e : ℕ} (r : Run s a e) where
  abbrev pub whole : List (List ℕ)
  whole = r.front ++ (r.inner ++ r.back)

  pub whole_each : Each Character whole
  whole_each = each_append Character r.front (r.inner ++ r.back) r.characters.0 (each_append Character r.inner r.back r.characters.1 r.characters.2)

  pub whole-bytes : s ≡ bytes whole
  whole-bytes = r.text ∙ sym (three_bytes r.front r.inner r.back)

-- a token's run has edges
module _ {s : List ℕ} {a e : ℕ} (t : Token s a e) where
  abbrev run : Run s a e
  run = t.run

  -- one character before it that does not part would make a longer run
  before_it : (vs : List (List ℕ)) (p : List ℕ) → run.front ≡ vs ++ (p ∷ []) → parts (scalar p) ≡ false → ⊥
  before_it vs p q f =
      let c = subst (Each Character) q run.characters.0 in
      let pc = (each_right Character vs (p ∷ []) c).0 in
      let n : length (bytes run.front) ≡ total vs + length p = ap total q ∙ total-append vs (p ∷ []) ∙ ap (λ (x : ℕ). total vs + x) (total-cons p [] ∙ simp total_nil (omega arith)) in
      let m = total-cons p run.inner in
      let l = has-bytes p pc in
      let longer : Run s (total vs) e = record {
        front = vs;
        inner = p ∷ run.inner;
        back = run.back;
        characters = (each_left Character vs (p ∷ []) c, (pc, run.characters.1), run.characters.2);
        text = whole-bytes run ∙ ap (λ (x : List (List ℕ)). bytes (x ++ (run.inner ++ run.back))) q ∙ ap bytes (append_assoc vs (p ∷ []) (run.inner ++ run.back)) ∙ three_bytes vs (p ∷ run.inner) run.back;
        starts = refl;
        ends = run.ends ∙ ap (λ (x : ℕ). x + total run.inner) (run.starts ∙ n) ∙ omega (arith, total-cons p run.inner);
        plain = (f, run.plain);
      } in
      let h = (t.longest (total vs) e longer (omega (arith, run.starts)) (omega arith)).0 in
      omega (arith, run.starts)

  behind_it : (ws : List (List ℕ)) (p : List ℕ) → run.back ≡ p ∷ ws → parts (scalar p) ≡ false → ⊥
  behind_it ws p q f =
      let c = subst (Each Character) q run.characters.2 in
      let m = total-append run.inner (p ∷ []) in
      let n = total-cons p [] in
      let z = total_nil in
      let l = has-bytes p c.0 in
      let longer : Run s a (e + length p) = record {
        front = run.front;
        inner = run.inner ++ (p ∷ []);
        back = ws;
        characters = (run.characters.0, each_append Character run.inner (p ∷ []) run.characters.1 (c.0, tt), c.1);
        text = whole-bytes run ∙ ap (λ (x : List (List ℕ)). bytes (run.front ++ (run.inner ++ x))) q ∙ ap (λ (x : List (List ℕ)). bytes (run.front ++ x)) (sym (append_assoc run.inner (p ∷ []) ws))
            ∙ three_bytes run.front (run.inner ++ (p ∷ [])) ws;
        starts = run.starts;
        ends = omega (arith, run.ends);
        plain = each_append Plain run.inner (p ∷ []) run.plain (f, tt);
      } in
      let h = (t.longest a (e + length p) longer (omega arith) (omega arith)).1 in
      omega arith

  left_edge : LeftEdge run.front
  left_edge = ⊎_elim (λ q. inl q) (λ k. by k.0 k.1 k.2 (parts (scalar k.1)) refl) (last_of run.front)
    where
      by : (vs : List (List ℕ)) (p : List ℕ) → run.front ≡ vs ++ (p ∷ []) → (x : Bool) → parts (scalar p) ≡ x → LeftEdge run.front
      by vs p q true f = inr (vs, p, q, f)
      by vs p q false f = absurd (before_it vs p q f)

  right_of : (vs : List (List ℕ)) → run.back ≡ vs → RightEdge run.back
  right_of [] q = inl q
  right_of (p ∷ ws) q = by (parts (scalar p)) refl
    where
      by : (x : Bool) → parts (scalar p) ≡ x → RightEdge run.back
      by true f = inr (p, ws, q, f)
      by false f = absurd (behind_it ws p q f)

  pub token_edged : Edged (whole run) a e
  token_edged =
      record {
        us = run.front;
        ms = run.inner;
        vs = run.back;
        split = refl;
        starts = run.starts;
        ends = run.ends;
        plain = run.plain;
        held = t.held;
        left = left_edge;
        right = right_of run.back refl;
      }

-- a run between edges is a longest one
no_snoc : (xs : List (List ℕ)) (p : List ℕ) → xs ++ (p ∷ []) ≡ [] → ⊥
no_snoc [] p e = no-cons (sym e)
no_snoc (x ∷ xs) p e = no-cons (sym e)

module _ (cs : List (List ℕ)) (k : Each Character cs) {a e : ℕ} (d : Edged cs a e) where
  parted-each : Each Character (d.us ++ (d.ms ++ d.vs))
  parted-each = subst (Each Character) d.split k

  us_each : Each Character d.us
  us_each = each_left Character d.us (d.ms ++ d.vs) parted-each

  ms_each : Each Character d.ms
  ms_each = each_left Character d.ms d.vs (each_right Character d.us (d.ms ++ d.vs) parted-each)

  vs_each : Each Character d.vs
  vs_each = each_right Character d.ms d.vs (each_right Character d.us (d.ms ++ d.vs) parted-each)

  edged_run : Run (bytes cs) a e
  edged_run =
      record {
        front = d.us;
        inner = d.ms;
        back = d.vs;
        characters = (us_each, ms_each, vs_each);
        text = ap bytes d.split ∙ three_bytes d.us d.ms d.vs;
        starts = d.starts;
        ends = d.ends;
        plain = d.plain;
      }

  module _ {b f : ℕ} (r : Run (bytes cs) b f) (hb : b ≤ a) (hf : e ≤ f) where
    together : r.front ++ (r.inner ++ r.back) ≡ d.us ++ (d.ms ++ d.vs)
    together = one_way (whole r) cs (whole_each r) k (sym (whole-bytes r)) ∙ d.split

    -- what stands between the other run's start and this one's
    abbrev between : (ws : List (List ℕ)) × (d.us ≡ r.front ++ ws) × (r.inner ++ r.back ≡ ws ++ (d.ms ++ d.vs))
    between = nested r.front (r.inner ++ r.back) d.us (d.ms ++ d.vs) r.characters.0 together (omega (arith, r.starts, d.starts))

    -- its last character would part, and the other run holds it
    not-between : (ws vs : List (List ℕ)) (p : List ℕ) → d.us ≡ r.front ++ ws → r.inner ++ r.back ≡ ws ++ (d.ms ++ d.vs) → ws ≡ vs ++ (p ∷ []) → ⊥
    not-between ws vs p u i q =
        let un : d.us ≡ (r.front ++ vs) ++ (p ∷ []) = u ∙ ap (λ (x : List (List ℕ)). r.front ++ x) q ∙ sym (append_assoc r.front vs (p ∷ [])) in
        let ut : total d.us ≡ total r.front + total ws = ap total u ∙ total-append r.front ws in
        let we : Each Character ws = each_right Character r.front ws (subst (Each Character) u us_each) in
        let n = nested ws (d.ms ++ d.vs) r.inner r.back we (sym i) (omega (arith, r.starts, r.ends, d.starts, d.ends)) in
        let pp : Each Plain (vs ++ (p ∷ [])) = subst (Each Plain) q (each_left Plain ws n.0 (subst (Each Plain) n.1 r.plain)) in
        ⊎_elim (λ z. no_snoc (r.front ++ vs) p (sym un ∙ z))
        (λ x. no (each_right Plain vs (p ∷ []) pp).0 (subst (λ (y : List ℕ). parts (scalar y) ≡ true) (sym (same_last (r.front ++ vs) x.0 p x.1 (sym un ∙ x.2))) x.3)) d.left

    none_between : (ws : List (List ℕ)) → d.us ≡ r.front ++ ws → r.inner ++ r.back ≡ ws ++ (d.ms ++ d.vs) → ws ≡ []
    none_between ws u i = ⊎_elim (λ z. z) (λ x. absurd (not-between ws x.0 x.1 u i x.2)) (last_of ws)

    same_start : b ≡ a
    same_start =
        let z = none_between between.0 between.1 between.2 in
        r.starts ∙ sym (ap total (between.1 ∙ ap (λ (x : List (List ℕ)). r.front ++ x) z ∙ append-nil r.front)) ∙ sym d.starts

    same_inner : r.inner ++ r.back ≡ d.ms ++ d.vs
    same_inner = between.2 ∙ ap (λ (x : List (List ℕ)). x ++ (d.ms ++ d.vs)) (none_between between.0 between.1 between.2)

    abbrev beyond : (zs : List (List ℕ)) × (r.inner ≡ d.ms ++ zs) × (d.vs ≡ zs ++ r.back)
    beyond = nested d.ms d.vs r.inner r.back ms_each (sym same_inner) (omega (arith, same_start, r.ends, d.ends))

    none_beyond : (zs : List (List ℕ)) → r.inner ≡ d.ms ++ zs → d.vs ≡ zs ++ r.back → zs ≡ []
    none_beyond [] u i = refl
    none_beyond (z ∷ zs) u i =
        let pp : Each Plain (z ∷ zs) = each_right Plain d.ms (z ∷ zs) (subst (Each Plain) u r.plain) in
        absurd
        (⊎_elim (λ q. no-cons (sym q ∙ i)) (λ x. no pp.0 (subst (λ (y : List ℕ). parts (scalar y) ≡ true) (heads (sym x.2 ∙ i)).0 x.3)) d.right)

    same_end : f ≡ e
    same_end =
        let z = none_beyond beyond.0 beyond.1 beyond.2 in
        let n : total r.inner ≡ total d.ms = ap total (beyond.1 ∙ ap (λ (x : List (List ℕ)). d.ms ++ x) z ∙ append-nil d.ms) in
        omega (arith, same_start, r.ends, d.ends)

  pub edged_token : Token (bytes cs) a e
  unfolding edged_run
  edged_token = record { run = edged_run; held = d.held; longest = λ b f r hb hf. (same_start r hb hf, same_end r hb hf) }
