-- The list of tokens, by characters: a run between parting characters or the text's ends that none parts and that holds one in the
-- range is listed, and nothing else is. Assumes nothing.
use Prim.Native.Nat.{ℕ, ◌+◌, ◌≤◌}
use native.Mathlib.Nat.{zero-add}
use native.Mathlib.Omega.{arith}
use mathlib.Core.Path.{◌≡◌, refl, sym, ap, subst, ◌∙◌}
use mathlib.Core.Logic.{◌⊎◌, inl, inr, ⊎_elim}
use mathlib.Core.Bool.{Bool, true, false, ◌||◌}
use mathlib.Core.List.Memᴰ
use mathlib.Core.List.{List, [], ◌∷◌, ◌++◌, append_assoc, Memᴰ}
use lib.ListN.{length, length-append}
use Rattle.std.proofs.lemmas.Bool.{or_left, or_right}
use Rattle.runs.specs.Runs.{pick}
use Rattle.tokenizer.specs.Scalars.{Character, bytes, scalar}
use Rattle.tokenizer.specs.Parting.{parts, devanagari}
use Rattle.tokenizer.specs.Tokens.{Each, Span, span}
use Rattle.tokenizer.specs.Scanned.{kept, scan}
use Rattle.text.proofs.Grammar.{no}
use Rattle.tokenizer.proofs.Parsed.{told, has-bytes}

-- how many bytes characters have
abbrev pub total : List (List ℕ) → ℕ
total cs = length (bytes cs)

pub bytes-append : (xs ys : List (List ℕ)) → bytes (xs ++ ys) ≡ bytes xs ++ bytes ys
unfolding bytes
bytes-append [] ys = refl
bytes-append (x ∷ xs) ys = ap (λ (z : List ℕ). x ++ z) (bytes-append xs ys) ∙ sym (append_assoc x (bytes xs) (bytes ys))

pub total-append : (xs ys : List (List ℕ)) → total (xs ++ ys) ≡ total xs + total ys
total-append xs ys = ap length (bytes-append xs ys) ∙ length-append (bytes xs) (bytes ys)

pub total-cons : (c : List ℕ) (cs : List (List ℕ)) → total (c ∷ cs) ≡ length c + total cs
unfolding bytes
total-cons c cs = length-append c (bytes cs)

pub total_nil : total [] ≡ 0
unfolding bytes
total_nil = refl

module _ (P : List ℕ → Type 0) where
  pub each_append : (xs ys : List (List ℕ)) → Each P xs → Each P ys → Each P (xs ++ ys)
  each_append [] ys p q = q
  each_append (x ∷ xs) ys p q = (p.0, each_append xs ys p.1 q)

  pub each_left : (xs ys : List (List ℕ)) → Each P (xs ++ ys) → Each P xs
  each_left [] ys p = tt
  each_left (x ∷ xs) ys p = (p.0, each_left xs ys p.1)

  pub each_right : (xs ys : List (List ℕ)) → Each P (xs ++ ys) → Each P ys
  each_right [] ys p = p
  each_right (x ∷ xs) ys p = each_right xs ys p.1

  pub each_mem : (xs : List (List ℕ)) (c : List ℕ) → Each P xs → Memᴰ c xs → P c
  each_mem [] c p m = absurd (Memᴰ.not-nil m)
  each_mem (x ∷ xs) c p m = ⊎_elim (λ e. subst P (sym e) p.0) (λ k. each_mem xs c p.1 k) (Memᴰ.cases_cons m)

pub has-total : (cs : List (List ℕ)) (c : List ℕ) → Each Character cs → Memᴰ c cs → 1 ≤ total cs
has-total [] c k m = absurd (Memᴰ.not-nil m)
has-total (x ∷ cs) c k m = let n = total-cons x cs in let b = has-bytes x k.0 in omega arith

abbrev pub Plain : List ℕ → Type 0
Plain c = parts (scalar c) ≡ false

-- a parting character stands at the end, or nothing does; and the same of the front
abbrev pub LeftEdge : List (List ℕ) → Type 0
LeftEdge us = (us ≡ []) ⊎ ((vs : List (List ℕ)) × (p : List ℕ) × (us ≡ vs ++ (p ∷ [])) × (parts (scalar p) ≡ true))

abbrev pub RightEdge : List (List ℕ) → Type 0
RightEdge vs = (vs ≡ []) ⊎ ((p : List ℕ) × (ws : List (List ℕ)) × (vs ≡ p ∷ ws) × (parts (scalar p) ≡ true))

abbrev pub Holds : List (List ℕ) → Type 0
Holds ms = (c : List ℕ) × Memᴰ c ms × (devanagari (scalar c) ≡ true)

-- from byte a up to byte e, between two edges, none parts and one is in the range
pub record Edged (cs : List (List ℕ)) (a e : ℕ) : Type 0 where
  pub us : List (List ℕ)
  pub ms : List (List ℕ)
  pub vs : List (List ℕ)
  pub split : cs ≡ us ++ (ms ++ vs)
  pub starts : a ≡ total us
  pub ends : e ≡ a + total ms
  pub plain : Each Plain ms
  pub held : Holds ms
  pub left : LeftEdge us
  pub right : RightEdge vs

-- the seams of three lists
shift_part : (us rs cs : List (List ℕ)) (c : List ℕ) → us ++ (rs ++ (c ∷ cs)) ≡ (us ++ (rs ++ (c ∷ []))) ++ cs
shift_part us rs cs c = simp append_assoc

shift_go : (us rs cs : List (List ℕ)) (c : List ℕ) → us ++ (rs ++ (c ∷ cs)) ≡ us ++ ((rs ++ (c ∷ [])) ++ cs)
shift_go us rs cs c = simp append_assoc

last-total : (rs : List (List ℕ)) (c : List ℕ) → total (rs ++ (c ∷ [])) ≡ total rs + length c
last-total rs c =
    let p = total-append rs (c ∷ []) in
    let q = total-cons c [] in
    let z = total_nil in
    omega arith

pub go_total : (rs : List (List ℕ)) (c : List ℕ) (a e : ℕ) → e ≡ a + total rs → e + length c ≡ a + total (rs ++ (c ∷ []))
go_total rs c a e h = let p = last-total rs c in omega arith

part-total : (us rs : List (List ℕ)) (c : List ℕ) (a e : ℕ) → a ≡ total us → e ≡ a + total rs → e + length c ≡ total (us ++ (rs ++ (c ∷ [])))
part-total us rs c a e g h =
    let p = last-total rs c in
    let q = total-append us (rs ++ (c ∷ [])) in
    omega arith

-- a character more holds what was held, or is itself in the range
holds_more : (held : Bool) (rs : List (List ℕ)) (c : List ℕ) → (held ≡ true → Holds rs) → (held || devanagari (scalar c)) ≡ true → Holds (rs ++ (c ∷ []))
holds_more true rs c h e = let k = h refl in (k.0, Memᴰ.append_left (c ∷ []) k.1, k.2)
holds_more false rs c h e = (c, Memᴰ.append_right rs (Memᴰ.head refl), e)

in_kept : (held : Bool) (a e : ℕ) (t : Span) (ts : List Span) → Memᴰ t (kept held a e ts) → ((held ≡ true) × (t ≡ span a e)) ⊎ Memᴰ t ts
in_kept true a e t ts m = ⊎_elim (λ q. inl (refl, q)) (λ k. inr k) (Memᴰ.cases_cons m)
in_kept false a e t ts m = inr m

pub kept-tail : (held : Bool) (a e : ℕ) (t : Span) (ts : List Span) → Memᴰ t ts → Memᴰ t (kept held a e ts)
kept-tail true a e t ts m = Memᴰ.tail m
kept-tail false a e t ts m = m

nothing_more : (e : ℕ) → e ≡ e + total []
nothing_more e = let z = total_nil in omega arith

-- what is listed has such edges
module _ (all : List (List ℕ)) (t : Span) where
  here_edged : (us rs cs : List (List ℕ)) (a e : ℕ) → all ≡ us ++ (rs ++ cs) → a ≡ total us → e ≡ a + total rs → Each Plain rs → Holds rs → LeftEdge us → RightEdge cs
      → t ≡ span a e → Edged all t.start t.end
  here_edged us rs cs a e q sa se p h l r i =
      subst (λ (x : Span). Edged all x.start x.end) (sym i)
      (record { us = us; ms = rs; vs = cs; split = q; starts = sa; ends = se; plain = p; held = h; left = l; right = r })

  by_char : (c : List ℕ) (cs us rs : List (List ℕ)) (a e : ℕ) (held : Bool) → all ≡ us ++ (rs ++ (c ∷ cs)) → a ≡ total us → e ≡ a + total rs → Each Plain rs
      → (held ≡ true → Holds rs) → LeftEdge us
      → (parts (scalar c) ≡ true → Memᴰ t (scan (e + length c) (e + length c) false (told cs)) → Edged all t.start t.end)
      → (parts (scalar c) ≡ false → Memᴰ t (scan a (e + length c) (held || devanagari (scalar c)) (told cs)) → Edged all t.start t.end)
      → (x : Bool) → parts (scalar c) ≡ x
      → Memᴰ t (pick x (kept held a e (scan (e + length c) (e + length c) false (told cs))) (scan a (e + length c) (held || devanagari (scalar c)) (told cs)))
      → Edged all t.start t.end
  by_char c cs us rs a e held q sa se p h l ip ig true g m =
      ⊎_elim (λ i. here_edged us rs (c ∷ cs) a e q sa se p (h i.0) l (inr (c, cs, refl, g)) i.1) (λ k. ip g k) (in_kept held a e t (scan (e + length c) (e + length c) false (told cs)) m)
  by_char c cs us rs a e held q sa se p h l ip ig false g m = ig g m

  listed_edged : (cs us rs : List (List ℕ)) (a e : ℕ) (held : Bool) → all ≡ us ++ (rs ++ cs) → a ≡ total us → e ≡ a + total rs → Each Plain rs
      → (held ≡ true → Holds rs) → LeftEdge us → Memᴰ t (scan a e held (told cs)) → Edged all t.start t.end
  unfolding scan told
  listed_edged [] us rs a e true q sa se p h l m = here_edged us rs [] a e q sa se p (h refl) l (inl refl) (Memᴰ.eq_of_singleton m)
  listed_edged [] us rs a e false q sa se p h l m = absurd (Memᴰ.not-nil m)
  listed_edged (c ∷ cs) us rs a e held q sa se p h l m =
      by_char c cs us rs a e held q sa se p h l
      (λ g k. listed_edged cs (us ++ (rs ++ (c ∷ []))) [] (e + length c) (e + length c) false (q ∙ shift_part us rs cs c) (part-total us rs c a e sa se) (nothing_more (e + length c)) tt
      (λ z. no refl z) (inr (us ++ rs, c, sym (append_assoc us rs (c ∷ [])), g)) k)
      (λ g k. listed_edged cs us (rs ++ (c ∷ [])) a (e + length c) (held || devanagari (scalar c)) (q ∙ shift_go us rs cs c) sa (go_total rs c a e se) (each_append Plain rs (c ∷ []) p (g, tt))
      (λ z. holds_more held rs c h z) l k)
      (parts (scalar c)) refl m

pub sound_edges : (cs : List (List ℕ)) (t : Span) → Memᴰ t (scan 0 0 false (told cs)) → Edged cs t.start t.end
sound_edges cs t m = listed_edged cs t cs [] [] 0 0 false refl (sym total_nil) (nothing_more 0) tt (λ z. no refl z) (inl refl) m

-- what has such edges is listed
to_end : (a e : ℕ) (vs : List (List ℕ)) → RightEdge vs → Memᴰ (span a e) (scan a e true (told vs))
unfolding scan told
to_end a e vs r =
    ⊎_elim (λ q. subst (λ (x : List (List ℕ)). Memᴰ (span a e) (scan a e true (told x))) (sym q) (Memᴰ.head refl))
    (λ q. subst (λ (x : List (List ℕ)). Memᴰ (span a e) (scan a e true (told x))) (sym q.2) (rw q.3 (Memᴰ.head refl))) r

reached : (ms vs : List (List ℕ)) (a e f : ℕ) (held : Bool) → Each Plain ms → RightEdge vs → f ≡ e + total ms → (held ≡ true) ⊎ Holds ms
    → Memᴰ (span a f) (scan a e held (told (ms ++ vs)))
unfolding scan told
reached [] vs a e f held p r g h =
    let z = total_nil in
    let q : f ≡ e = omega arith in
    let k : held ≡ true = ⊎_elim (λ x. x) (λ x. absurd (Memᴰ.not-nil x.1)) h in
    subst (λ (x : ℕ). Memᴰ (span a x) (scan a e held (told vs))) (sym q)
    (subst (λ (x : Bool). Memᴰ (span a e) (scan a e x (told vs))) (sym k) (to_end a e vs r))
reached (m ∷ ms) vs a e f held p r g h =
    let q = total-cons m ms in
    let k : ((held || devanagari (scalar m)) ≡ true) ⊎ Holds ms =
    ⊎_elim (λ x. inl (or_left held _ x)) (λ x. ⊎_elim (λ i. inl (or_right held _ (subst (λ (y : List ℕ). devanagari (scalar y) ≡ true) i x.2))) (λ j. inr (x.0, j, x.2)) (Memᴰ.cases_cons x.1)) h in
    rw p.0 (reached ms vs a (e + length m) f (held || devanagari (scalar m)) p.1 r (omega arith) k)

passed_by : (us rest : List (List ℕ)) (p : List ℕ) (t : Span) (a e f : ℕ) (held : Bool) → parts (scalar p) ≡ true → f ≡ e + total (us ++ (p ∷ []))
    → Memᴰ t (scan f f false (told rest)) → Memᴰ t (scan a e held (told (us ++ (p ∷ rest))))
unfolding scan told
passed_by [] rest p t a e f held g h m =
    let q = total-cons p [] in
    let z = total_nil in
    let k : f ≡ e + length p = omega arith in
    rw g (kept-tail held a e t _ (subst (λ (x : ℕ). Memᴰ t (scan x x false (told rest))) k m))
passed_by (u ∷ us) rest p t a e f held g h m =
    let q = total-cons u (us ++ (p ∷ [])) in
    let k : f ≡ e + length u + total (us ++ (p ∷ [])) = omega arith in
    by (parts (scalar u)) (passed_by us rest p t (e + length u) (e + length u) f false g k m) (passed_by us rest p t a (e + length u) f (held || devanagari (scalar u)) g k m)
  where
    by : (x : Bool) → Memᴰ t (scan (e + length u) (e + length u) false (told (us ++ (p ∷ rest)))) → Memᴰ t (scan a (e + length u) (held || devanagari (scalar u)) (told (us ++ (p ∷ rest))))
        → Memᴰ t (pick x (kept held a e (scan (e + length u) (e + length u) false (told (us ++ (p ∷ rest))))) (scan a (e + length u) (held || devanagari (scalar u)) (told (us ++ (p ∷ rest)))))
    by true i j = kept-tail held a e t _ i
    by false i j = j

pub complete_edges : (cs : List (List ℕ)) (a e : ℕ) → Edged cs a e → Memᴰ (span a e) (scan 0 0 false (told cs))
complete_edges cs a e d =
    subst (λ (x : List (List ℕ)). Memᴰ (span a e) (scan 0 0 false (told x))) (sym d.split)
    (⊎_elim
    (λ q. subst (λ (x : List (List ℕ)). Memᴰ (span a e) (scan 0 0 false (told (x ++ (d.ms ++ d.vs))))) (sym q)
    (let z : a ≡ 0 = d.starts ∙ ap total q ∙ total_nil in
    subst (λ (x : ℕ). Memᴰ (span x e) (scan 0 0 false (told (d.ms ++ d.vs)))) (sym z) (reached d.ms d.vs 0 0 e false d.plain d.right (d.ends ∙ ap (λ (x : ℕ). x + total d.ms) z) (inr d.held))))
    (λ q. subst (λ (x : List (List ℕ)). Memᴰ (span a e) (scan 0 0 false (told (x ++ (d.ms ++ d.vs))))) (sym q.2)
    (subst (λ (x : List (List ℕ)). Memᴰ (span a e) (scan 0 0 false (told x))) (sym (append_assoc q.0 (q.1 ∷ []) (d.ms ++ d.vs)))
    (passed_by q.0 (d.ms ++ d.vs) q.1 (span a e) 0 0 a false q.3 (d.starts ∙ ap total q.2 ∙ sym (zero-add _))
    (reached d.ms d.vs a a e false d.plain d.right d.ends (inr d.held)))))
    d.left)
