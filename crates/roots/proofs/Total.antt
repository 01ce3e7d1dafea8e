-- The rank is a total order: of two candidates one comes first unless their root, prefixes and suffixes are the same. So the list of
-- candidates ascends strictly by rank. Assumes nothing.
use Prim.Native.Nat.{ℕ}
use native.Mathlib.Omega.{arith}
use mathlib.Core.Path.{◌≡◌, refl, sym, ap, ◌∙◌}
use mathlib.Core.Bool.{Bool, true, false}
use mathlib.Core.List.{List, [], ◌∷◌}
use Rattle.runs.specs.Runs.{pick, cmp}
use Rattle.std.specs.declared.cmp.Ordering.{Ordering}
use Rattle.std.specs.declared.cmp.Ordering.TheVariants.{Less, Equal, Greater}
use Rattle.runs.proofs.Ordered.{turned, cmp_trans, cmp_turned, cmp_equal}
use Rattle.text.specs.Characters.{chars}
use Rattle.ranking.specs.Rank.{is_less}
use Rattle.sheet.specs.Letters.{is_known}
use Rattle.sheet.specs.Replies.{Ask, letters_by}
use Rattle.decomposition.specs.declared.Parts.{Parts}
use Rattle.decomposition.specs.Parts.{root_text}
use Rattle.std.specs.Ordering.{is_eq, ordering_then}
use Rattle.roots.specs.Rank.{descending, having, cmp_texts, prefix_texts, suffix_texts, key_order, rank_of, ahead_of}
use Rattle.roots.specs.Lists.{holds_in, ranked, once}
use Rattle.roots.specs.Candidates.{candidate_by, kept_of, kept_all, offers, candidates}
use Rattle.roots.specs.declared.RootCandidate.{RootCandidate}

-- an order by three laws: turned round it is turned, what stands alike compares alike, and it is transitive
record Fair {A : Type 0} (o : A → A → Ordering) : Type 0 where
  turn : (a b : A) → o b a ≡ turned (o a b)
  alike : (a b c : A) → o a b ≡ Equal → o a c ≡ o b c
  trans : (a b c : A) → o a b ≡ Less → o b c ≡ Less → o a c ≡ Less

turned_twice : (o : Ordering) → turned (turned o) ≡ o
turned_twice Less = refl
turned_twice Equal = refl
turned_twice Greater = refl

-- what stands alike compares alike on the other side too
alike_right : {A : Type 0} {o : A → A → Ordering} → Fair o → (a b c : A) → o b c ≡ Equal → o a c ≡ o a b
alike_right {A} {o} f a b c e = f.turn c a ∙ ap turned (sym (f.alike b c a e)) ∙ sym (f.turn b a)

-- Orders one after the other.

then_turned : (p q : Ordering) → ordering_then (turned p) (turned q) ≡ turned (ordering_then p q)
then_turned Less q = refl
then_turned Equal q = refl
then_turned Greater q = refl

then_equal : (p q : Ordering) → ordering_then p q ≡ Equal → (p ≡ Equal) × (q ≡ Equal)
then_equal Less q e = let z : ◌≡◌ {A = ℕ} 0 1 = cc in absurd (omega arith)
then_equal Equal q e = (refl, e)
then_equal Greater q e = let z : ◌≡◌ {A = ℕ} 0 1 = cc in absurd (omega arith)

then_less : (pab pbc pac qab qbc qac : Ordering) → (pab ≡ Less → pbc ≡ Less → pac ≡ Less) → (pab ≡ Equal → pac ≡ pbc) → (pbc ≡ Equal → pac ≡ pab)
    → (qab ≡ Less → qbc ≡ Less → qac ≡ Less) → ordering_then pab qab ≡ Less → ordering_then pbc qbc ≡ Less → ordering_then pac qac ≡ Less
then_less Less Less pac qab qbc qac t l r q d e = ap (λ (o : Ordering). ordering_then o qac) (t refl refl)
then_less Less Equal pac qab qbc qac t l r q d e = ap (λ (o : Ordering). ordering_then o qac) (r refl)
then_less Equal Less pac qab qbc qac t l r q d e = ap (λ (o : Ordering). ordering_then o qac) (l refl)
then_less Equal Equal pac qab qbc qac t l r q d e = ap (λ (o : Ordering). ordering_then o qac) (l refl) ∙ q d e
then_less Greater pbc pac qab qbc qac t l r q d e = let z : ◌≡◌ {A = ℕ} 0 1 = cc in absurd (omega arith)
then_less Less Greater pac qab qbc qac t l r q d e = let z : ◌≡◌ {A = ℕ} 0 1 = cc in absurd (omega arith)
then_less Equal Greater pac qab qbc qac t l r q d e = let z : ◌≡◌ {A = ℕ} 0 1 = cc in absurd (omega arith)

module _ {A : Type 0} {p q : A → A → Ordering} (f : Fair p) (g : Fair q) where
  then_fair : Fair (λ (a b : A). ordering_then (p a b) (q a b))
  then_fair = record {
    turn = λ a b. ap (λ (o : Ordering). ordering_then o (q b a)) (f.turn a b) ∙ ap (ordering_then (turned (p a b))) (g.turn a b) ∙ then_turned (p a b) (q a b);
    alike = λ a b c e.
        let d = then_equal (p a b) (q a b) e in
        ap (λ (o : Ordering). ordering_then o (q a c)) (f.alike a b c d.0) ∙ ap (ordering_then (p b c)) (g.alike a b c d.1);
    trans = λ a b c d e.
        then_less (p a b) (p b c) (p a c) (q a b) (q b c) (q a c) (f.trans a b c) (f.alike a b c) (alike_right f a b c) (g.trans a b c) d e;
  }

-- The orders of the rank.

cmp_fair : Fair cmp
cmp_fair = record { turn = cmp_turned; alike = λ a b c e. ap (λ (x : List ℕ). cmp x c) (cmp_equal a b e); trans = cmp_trans }

texts_turned : (a b : List (List ℕ)) → cmp_texts b a ≡ turned (cmp_texts a b)
texts_turned [] [] = refl
texts_turned [] (y ∷ ys) = refl
texts_turned (x ∷ xs) [] = refl
texts_turned (x ∷ xs) (y ∷ ys) =
    ap (λ (o : Ordering). ordering_then o (cmp_texts ys xs)) (cmp_turned x y) ∙ ap (ordering_then (turned (cmp x y))) (texts_turned xs ys) ∙ then_turned (cmp x y) (cmp_texts xs ys)

pub texts_equal : (a b : List (List ℕ)) → cmp_texts a b ≡ Equal → a ≡ b
texts_equal [] [] e = refl
texts_equal [] (y ∷ ys) e = let z : ◌≡◌ {A = ℕ} 0 1 = cc in absurd (omega arith)
texts_equal (x ∷ xs) [] e = let z : ◌≡◌ {A = ℕ} 0 1 = cc in absurd (omega arith)
texts_equal (x ∷ xs) (y ∷ ys) e =
    let d = then_equal (cmp x y) (cmp_texts xs ys) e in
    let h = cmp_equal x y d.0 in
    let t = texts_equal xs ys d.1 in
    cc

texts_trans : (a b c : List (List ℕ)) → cmp_texts a b ≡ Less → cmp_texts b c ≡ Less → cmp_texts a c ≡ Less
texts_trans [] b [] d e = by b d e
  where
    by : (b : List (List ℕ)) → cmp_texts [] b ≡ Less → cmp_texts b [] ≡ Less → cmp_texts [] [] ≡ Less
    by [] d e = d
    by (y ∷ ys) d e = let z : ◌≡◌ {A = ℕ} 0 1 = cc in absurd (omega arith)
texts_trans [] b (z ∷ zs) d e = refl
texts_trans (x ∷ xs) [] c d e = let z : ◌≡◌ {A = ℕ} 0 1 = cc in absurd (omega arith)
texts_trans (x ∷ xs) (y ∷ ys) [] d e = let z : ◌≡◌ {A = ℕ} 0 1 = cc in absurd (omega arith)
texts_trans (x ∷ xs) (y ∷ ys) (z ∷ zs) d e =
    then_less (cmp x y) (cmp y z) (cmp x z) (cmp_texts xs ys) (cmp_texts ys zs) (cmp_texts xs zs) (cmp_trans x y z) (cmp_fair.alike x y z) (alike_right cmp_fair x y z)
    (texts_trans xs ys zs) d e

texts_fair : Fair cmp_texts
texts_fair = record { turn = texts_turned; alike = λ a b c e. ap (λ (x : List (List ℕ)). cmp_texts x c) (texts_equal a b e); trans = texts_trans }

having_fair : Fair having
having_fair = record { turn = turn; alike = alike; trans = trans }
  where
    turn : (a b : Bool) → having b a ≡ turned (having a b)
    turn true true = refl
    turn true false = refl
    turn false true = refl
    turn false false = refl

    alike : (a b c : Bool) → having a b ≡ Equal → having a c ≡ having b c
    alike true true c e = refl
    alike false false c e = refl
    alike true false c e = let z : ◌≡◌ {A = ℕ} 0 1 = cc in absurd (omega arith)
    alike false true c e = let z : ◌≡◌ {A = ℕ} 0 1 = cc in absurd (omega arith)

    trans : (a b c : Bool) → having a b ≡ Less → having b c ≡ Less → having a c ≡ Less
    trans true true c d e = let z : ◌≡◌ {A = ℕ} 0 1 = cc in absurd (omega arith)
    trans true false true d e = let z : ◌≡◌ {A = ℕ} 0 1 = cc in absurd (omega arith)
    trans true false false d e = refl
    trans false true c d e = let z : ◌≡◌ {A = ℕ} 0 1 = cc in absurd (omega arith)
    trans false false c d e = let z : ◌≡◌ {A = ℕ} 0 1 = cc in absurd (omega arith)

-- larger first is the order of bytes of the two numbers, turned round
swap_fair : {A : Type 0} {o : A → A → Ordering} → Fair o → Fair (λ (a b : A). o b a)
swap_fair {A} {o} f = record { turn = λ a b. f.turn b a; alike = λ a b c e. alike_right f c b a e; trans = λ a b c d e. f.trans c b a e d }

on_fair : {A B : Type 0} {o : B → B → Ordering} (k : A → B) → Fair o → Fair (λ (a b : A). o (k a) (k b))
on_fair k f = record { turn = λ a b. f.turn (k a) (k b); alike = λ a b c e. f.alike (k a) (k b) (k c) e; trans = λ a b c d e. f.trans (k a) (k b) (k c) d e }

descending_fair : Fair descending
descending_fair = swap_fair (on_fair (λ (n : ℕ). n ∷ []) cmp_fair)

key_fair : (w : List ℕ) → Fair (key_order w)
unfolding key_order
key_fair w = then_fair (on_fair (root_text w) cmp_fair) (then_fair (on_fair prefix_texts texts_fair) (on_fair suffix_texts texts_fair))

rank_fair : (w : List ℕ) → Fair (rank_of w)
unfolding rank_of
rank_fair w =
    then_fair (on_fair (λ (c : RootCandidate). c.score) descending_fair)
    (then_fair (on_fair (λ (c : RootCandidate). c.known_headword) having_fair)
    (then_fair (on_fair (λ (c : RootCandidate). c.known_word) having_fair)
    (then_fair (on_fair (λ (c : RootCandidate). chars (root_text w c.parts)) descending_fair)
    (on_fair (λ (c : RootCandidate). c.parts) (key_fair w)))))

module _ (w : List ℕ) where
  -- of two candidates the one comes first exactly where the other does not
  pub rank_turned : (a b : RootCandidate) → rank_of w b a ≡ turned (rank_of w a b)
  rank_turned = (rank_fair w).turn

  pub rank_trans : (a b c : RootCandidate) → rank_of w a b ≡ Less → rank_of w b c ≡ Less → rank_of w a c ≡ Less
  rank_trans = (rank_fair w).trans

  rank_key : (a b : RootCandidate) → rank_of w a b ≡ Equal → key_order w a.parts b.parts ≡ Equal
  unfolding rank_of
  rank_key a b e =
      let k = key_order w a.parts b.parts in
      let n = descending (chars (root_text w a.parts)) (chars (root_text w b.parts)) in
      let m = having a.known_word b.known_word in
      let h = having a.known_headword b.known_headword in
      let s = descending a.score b.score in
      (then_equal n k (then_equal m (ordering_then n k) (then_equal h (ordering_then m (ordering_then n k)) (then_equal s (ordering_then h (ordering_then m (ordering_then n k))) e).1).1).1).1

  -- neither comes first only where root, prefixes and suffixes are the same
  pub rank_same : (a b : RootCandidate) → rank_of w a b ≡ Equal
      → (root_text w a.parts ≡ root_text w b.parts) × (prefix_texts a.parts ≡ prefix_texts b.parts) × (suffix_texts a.parts ≡ suffix_texts b.parts)
  unfolding key_order
  rank_same a b e =
      let p = a.parts in
      let q = b.parts in
      let d = then_equal (cmp (root_text w p) (root_text w q)) (ordering_then (cmp_texts (prefix_texts p) (prefix_texts q)) (cmp_texts (suffix_texts p) (suffix_texts q))) (rank_key a b e) in
      let f = then_equal (cmp_texts (prefix_texts p) (prefix_texts q)) (cmp_texts (suffix_texts p) (suffix_texts q)) d.1 in
      (cmp_equal (root_text w p) (root_text w q) d.0, texts_equal (prefix_texts p) (prefix_texts q) f.0, texts_equal (suffix_texts p) (suffix_texts q) f.1)

  -- x comes before all of a list, and each row before all that follow it
  abbrev pub Before : RootCandidate → List RootCandidate → Type 0
  Before x [] = Unit {0}
  Before x (y ∷ ys) = (rank_of w x y ≡ Less) × Before x ys

  abbrev pub Ascends : List RootCandidate → Type 0
  Ascends [] = Unit {0}
  Ascends (x ∷ xs) = Before x xs × Ascends xs

  before_all : (r x : RootCandidate) (xs : List RootCandidate) → rank_of w r x ≡ Less → Before x xs → Before r xs
  before_all r x [] e b = tt
  before_all r x (y ∷ ys) e b = (rank_trans r x y e b.0, before_all r x ys e b.1)

  before-ranked : (x r : RootCandidate) (xs : List RootCandidate) → rank_of w x r ≡ Less → Before x xs → Before x (ranked w r xs)
  unfolding ranked
  before-ranked x r [] e b = (e, tt)
  before-ranked x r (y ∷ ys) e b = by (ahead_of w r y) (before-ranked x r ys e b.1)
    where
      by : (t : Bool) → Before x (ranked w r ys) → Before x (pick t (r ∷ y ∷ ys) (y ∷ ranked w r ys))
      by true m = (e, b)
      by false m = (b.0, m)

  ranked_ascends : (r : RootCandidate) (xs : List RootCandidate) → holds_in w r.parts xs ≡ false → Ascends xs → Ascends (ranked w r xs)
  unfolding ranked holds_in ahead_of
  ranked_ascends r [] h a = (tt, tt)
  ranked_ascends r (x ∷ xs) h a = by (rank_of w r x) refl (is_eq (key_order w r.parts x.parts)) refl h (λ t. ranked_ascends r xs t a.1)
    where
      by : (o : Ordering) → rank_of w r x ≡ o → (s : Bool) → is_eq (key_order w r.parts x.parts) ≡ s → pick s true (holds_in w r.parts xs) ≡ false
          → (holds_in w r.parts xs ≡ false → Ascends (ranked w r xs)) → Ascends (pick (is_less o) (r ∷ x ∷ xs) (x ∷ ranked w r xs))
      by o e true k t f = let z : ◌≡◌ {A = ℕ} 0 1 = cc in absurd (omega arith)
      by Less e false k t f = ((e, before_all r x xs e a.0), a)
      by Equal e false k t f =
          let y : ◌≡◌ {A = Bool} true false = sym (ap is_eq (rank_key r x e)) ∙ k in
          let z : ◌≡◌ {A = ℕ} 0 1 = cc in
          absurd (omega arith)
      by Greater e false k t f = (before-ranked x r xs (rank_turned r x ∙ ap turned e) a.0, f t)

  once_ascends : (r : RootCandidate) (xs : List RootCandidate) → Ascends xs → Ascends (once w r xs)
  unfolding once
  once_ascends r xs a = by (holds_in w r.parts xs) refl
    where
      by : (b : Bool) → holds_in w r.parts xs ≡ b → Ascends (pick b xs (ranked w r xs))
      by true e = a
      by false e = ranked_ascends r xs e a

  kept_ascends : (ask : Ask) (xs : List RootCandidate) (p : Parts) → Ascends xs → Ascends (kept_of ask w xs p)
  unfolding kept_of
  kept_ascends ask xs p a = by (is_known (letters_by ask (root_text w p))) (once_ascends (candidate_by ask w p (letters_by ask (root_text w p))) xs a)
    where
      by : (b : Bool) → Ascends (once w (candidate_by ask w p (letters_by ask (root_text w p))) xs)
          → Ascends (pick b (once w (candidate_by ask w p (letters_by ask (root_text w p))) xs) xs)
      by true m = m
      by false m = a

  all_ascend : (ask : Ask) (xs : List RootCandidate) (ps : List Parts) → Ascends xs → Ascends (kept_all ask w xs ps)
  unfolding kept_all
  all_ascend ask xs [] a = a
  all_ascend ask xs (p ∷ ps) a = all_ascend ask (kept_of ask w xs p) ps (kept_ascends ask xs p a)

  -- the candidates stand in rank order, none of them twice
  pub candidates_ascend : (ask : Ask) → Ascends (candidates ask w)
  unfolding candidates
  candidates_ascend ask = all_ascend ask [] (offers ask w) tt
