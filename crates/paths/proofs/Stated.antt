-- The rank by which the code puts readings in order is document 01's: of two stems of a word, which are front parts of whole
-- characters, the longer one has more characters, and two of the same length are the same bytes. Assumes nothing.
use Prim.Native.Nat.{ℕ, ◌+◌, ◌-◌, ◌≤◌, ◌<◌}
use native.Mathlib.Omega.{arith}
use mathlib.Core.Path.{◌≡◌, refl, sym, ap, ap₂, ◌∙◌}
use mathlib.Core.Bool.{Bool, true, false}
use mathlib.Core.Logic.{◌↔◌}
use mathlib.Core.List.{List, [], ◌∷◌, ◌++◌, map, append_assoc, head-eq_of_cons-eq, tail-eq_of_cons-eq, Memᴰ}
use lib.ListN.{length, take, drop, length-append}
use lib.Seq.{take_at, drop_at}
use lib.Dec.{ltb, leb}
use borrow.Author.Tests.{lt-ltb, le-ltb, le-leb, eqb-true}
use Rattle.runs.specs.Runs.{pick, cmp}
use Rattle.std.specs.declared.cmp.Ordering.{Ordering}
use Rattle.std.specs.declared.cmp.Ordering.TheVariants.{Less, Equal, Greater}
use Rattle.runs.proofs.Ordered.{and_then, turned, cmp_turned, cmp_refl}
use Rattle.text.specs.Utf8.{is_utf8}
use Rattle.text.specs.Characters.{opens, chars}
use Rattle.strips.proofs.Parts.{utf8_begun, utf8_back}
use Rattle.tables.proofs.Compared.{by_order}
use Rattle.sheet.specs.Replies.{Ask}
use Rattle.ranking.specs.Parts.{part}
use Rattle.ranking.specs.Rank.{is_less, larger, root_text, ahead_of, stem_text}
use Rattle.paths.specs.Chains.{all_rows, Strip, rows_after, Suffixed, Route, PathOf}
use Rattle.paths.specs.Readings.{Parts, parts_of, reading_of}
use Rattle.paths.specs.Rank.{or_else, smaller, score_by, place_of, earlier, ranked_or, ranked_before}
use Rattle.paths.proofs.Sound.{sound}
use Rattle.paths.proofs.Complete.{complete}
use Rattle.paths.proofs.Pairs.{pairwise_map}
use Rattle.paths.proofs.Unique.{rows_fewer, unique}
use Rattle.paths.specs.Counted.{Pairwise, Distinct}
use Rattle.paths.proofs.Ascending.{before}
use Rattle.paths.proofs.Stable.{Permuted, same, skip, swap, then, Kept}
use Rattle.paths.proofs.Ranked.{path_rank, path_rows}
use Rattle.paths.proofs.Bounded.{ranked_all}
use Rattle.paths.specs.Walk.{word_walk}
use Rattle.paths.specs.Questions.{Part}
use Rattle.paths.proofs.Own.{whole_part}
use Rattle.paths.proofs.Alike.{left-part}
use Rattle.paths.proofs.Keys.{prefix_front, suffix_back}

-- Characters of a longer text.

chars-append : (a b : List ℕ) → chars (a ++ b) ≡ chars a + chars b
unfolding chars
chars-append [] b = omega arith
chars-append (x ∷ a) b = let h = chars-append a b in omega arith

chars-some : (m : List ℕ) → is_utf8 m ≡ true → 0 < length m → 0 < chars m
unfolding chars
chars-some [] u h = absurd (omega arith)
chars-some (x ∷ m) u h = let e : opens x ≡ 1 = eqb-true (opens x) 1 (utf8_begun (x ∷ m) u) in omega arith

-- of two front parts the longer is the shorter with something behind it
longer : (w a r b s : List ℕ) → w ≡ a ++ r → w ≡ b ++ s → length a ≤ length b → b ≡ a ++ drop (length a) b
longer w [] r b s e f h = refl
longer w (x ∷ a) r [] s e f h = absurd (omega arith)
longer w (x ∷ a) r (y ∷ b) s e f h =
    let g : x ∷ a ++ r ≡ y ∷ b ++ s = sym e ∙ f in
    let k = longer (a ++ r) a r b s refl (tail-eq_of_cons-eq g) (omega arith) in
    ap₂ (λ (z : ℕ) (l : List ℕ). z ∷ l) (sym (head-eq_of_cons-eq g)) k

more-characters : (w a r b s : List ℕ) → w ≡ a ++ r → w ≡ b ++ s → is_utf8 a ≡ true → is_utf8 b ≡ true → length a < length b → chars a < chars b
more-characters w a r b s e f u v h =
    let m = drop (length a) b in
    let j : b ≡ a ++ m = longer w a r b s e f (omega arith) in
    let l : length b ≡ length a + length m = ap length j ∙ length-append a m in
    let k : 0 < chars m = chars-some m (utf8_back a m u (ap is_utf8 (sym j) ∙ v)) (omega arith) in
    let c : chars b ≡ chars a + chars m = ap chars j ∙ chars-append a m in
    omega arith

same_length : (w a r b s : List ℕ) → w ≡ a ++ r → w ≡ b ++ s → length a ≡ length b → a ≡ b
same_length w a r b s e f h = sym (take_at a r (length a) refl) ∙ ap (take (length a)) (sym e ∙ f) ∙ take_at b s (length a) (sym h)

-- Stem and root of a path.

-- a stem is a front part of whole characters
record Front (w stem : List ℕ) : Type 0 where
  back : List ℕ
  joined : w ≡ stem ++ back
  utf8 : is_utf8 stem ≡ true

stem_utf8 : (ask : Ask) (w : List ℕ) (n : ℕ) → n ≤ all_rows → (piece : List ℕ) (strips : List Strip) (stem : List ℕ) → Part w piece → Suffixed ask n piece strips stem
    → is_utf8 stem ≡ true
stem_utf8 ask w n h piece [] stem t p = ap is_utf8 (sym p) ∙ t.part_utf8
stem_utf8 ask w n h piece (x ∷ strips) stem t p =
    let i = p.0 in
    stem_utf8 ask w (rows_after x.row) (rows_fewer x.row) p.2.0 strips stem (left-part w piece x p.2.0 (omega arith) t p.2.1) p.2.2

path_front : (ask : Ask) (w : List ℕ) (p : Route) → is_utf8 w ≡ true → PathOf ask w p → Front w p.stem
path_front ask w p u a =
    let t = suffix_back ask all_rows w p.strips p.stem a.suffixed in
    record { back = t.0; joined = t.1; utf8 = stem_utf8 ask w all_rows (omega arith) w p.strips p.stem (whole_part w u) a.suffixed }

part_is : (w stem f root back : List ℕ) → stem ≡ f ++ root → w ≡ stem ++ back → part w (length stem - length root) (length stem) ≡ root
unfolding part
part_is w stem f root back e d =
    let ls : length stem ≡ length f + length root = ap length e ∙ length-append f root in
    let lw : length w ≡ length stem + length back = ap length d ∙ length-append stem back in
    let n = length stem - length root in
    let z : length f ≡ n = omega arith in
    let c : w ≡ f ++ (root ++ back) = d ∙ ap (λ (l : List ℕ). l ++ back) e ∙ append_assoc f root back in
    let x : drop n w ≡ root ++ back = ap (drop n) c ∙ drop_at f (root ++ back) n z in
    let y : take (length stem - n) (drop n w) ≡ root = ap (take (length stem - n)) x ∙ take_at root back (length stem - n) (omega arith) in
    let a : leb n (length stem) ≡ true = le-leb n (length stem) (omega arith) in
    let b : leb (length stem) (length w) ≡ true = le-leb (length stem) (length w) (omega arith) in
    rw (a, b) y

pub root_is : (ask : Ask) (w : List ℕ) (p : Route) → PathOf ask w p → root_text w (reading_of ask w p) ≡ p.root
unfolding reading_of
root_is ask w p a =
    let f = prefix_front ask p.stem p.prefix_rows p.root a.prefixed in
    let t = suffix_back ask all_rows w p.strips p.stem a.suffixed in
    part_is w p.stem f.0 p.root t.0 f.2 t.1

pub stem_is : (ask : Ask) (w : List ℕ) (p : Route) → PathOf ask w p → stem_text w (reading_of ask w p) ≡ p.stem
unfolding reading_of
stem_is ask w p a =
    let t = suffix_back ask all_rows w p.strips p.stem a.suffixed in
    let z : length p.stem - length p.stem ≡ 0 = omega arith in
    ap (λ (n : ℕ). part w n (length p.stem)) (sym z) ∙ part_is w p.stem [] p.stem t.0 refl t.1

-- The two ranks.

larger-more : (x y : ℕ) (rest : Bool) → y < x → larger x y rest ≡ true
larger-more x y rest h = rw (lt-ltb y x h)

larger_less : (x y : ℕ) (rest : Bool) → x < y → larger x y rest ≡ false
larger_less x y rest h = rw (le-ltb y x (omega arith), lt-ltb x y h)

larger_same : (x y : ℕ) (rest : Bool) → x ≡ y → larger x y rest ≡ rest
larger_same x y rest h = rw (le-ltb y x (omega arith), le-ltb x y (omega arith))

last_less : (o : Ordering) → or_else o false ≡ is_less o
last_less Less = refl
last_less Equal = refl
last_less Greater = refl

stems_decide : (w a b : List ℕ) → Front w a → Front w b → (rest : Bool)
    → larger (chars a) (chars b) (smaller a b rest) ≡ larger (length a) (length b) rest
stems_decide w a b s t rest =
    by_order (length b) (length a)
    (λ l.
    larger-more (chars a) (chars b) _ (more-characters w b t.back a s.back t.joined s.joined t.utf8 s.utf8 l)
    ∙ sym (larger-more (length a) (length b) rest l))
    (λ k. by_order (length a) (length b)
    (λ l.
    larger_less (chars a) (chars b) _ (more-characters w a s.back b t.back s.joined t.joined s.utf8 t.utf8 l)
    ∙ sym (larger_less (length a) (length b) rest l))
    (λ l.
    let z : length a ≡ length b = omega arith in
    let e : a ≡ b = same_length w a s.back b t.back s.joined t.joined z in
    larger_same (chars a) (chars b) _ (ap chars e)
    ∙ ap (λ (x : List ℕ). or_else (cmp a x) rest) (sym e) ∙ ap (λ (o : Ordering). or_else o rest) (cmp_refl a)
    ∙ sym (larger_same (length a) (length b) rest z)))

-- the code's rank is document 01's, but for the order of paths
pub stated : (ask : Ask) (w : List ℕ) (p q : Route) → is_utf8 w ≡ true → PathOf ask w p → PathOf ask w q
    → ranked_or ask w p q false ≡ ahead_of w (reading_of ask w p) (reading_of ask w q)
unfolding ahead_of reading_of
stated ask w p q u a b =
    let r : smaller p.root q.root false ≡ is_less (cmp (root_text w (reading_of ask w p)) (root_text w (reading_of ask w q))) =
    last_less (cmp p.root q.root) ∙ ap₂ (λ (x y : List ℕ). is_less (cmp x y)) (sym (root_is ask w p a)) (sym (root_is ask w q b)) in
    go (stems_decide w p.stem q.stem (path_front ask w p u a) (path_front ask w q u b) (smaller p.root q.root false) ∙ ap (larger (length p.stem) (length q.stem)) r)
  where
    go : larger (chars p.stem) (chars q.stem) (smaller p.stem q.stem (smaller p.root q.root false))
        ≡ larger (length p.stem) (length q.stem) (is_less (cmp (root_text w (reading_of ask w p)) (root_text w (reading_of ask w q))))
        → ranked_or ask w p q false ≡ ahead_of w (reading_of ask w p) (reading_of ask w q)
    go e =
        ap (λ (x : Bool). larger (score_by ask w p) (score_by ask w q) (larger (length p.strips) (length q.strips)
        (larger (length p.prefix_rows) (length q.prefix_rows) x))) e

-- The order of paths comes last.

larger_splits : (x y : ℕ) (r a b rest : Bool) → r ≡ pick a true (pick b false rest) → larger x y r ≡ pick (larger x y a) true (pick (larger y x b) false rest)
larger_splits x y r a b rest e = go (ltb y x) (ltb x y)
  where
    go : (c d : Bool) → pick c true (pick d false r) ≡ pick (pick c true (pick d false a)) true (pick (pick d true (pick c false b)) false rest)
    go true d = refl
    go false true = refl
    go false false = e

smaller_splits : (s t : List ℕ) (r a b rest : Bool) → r ≡ pick a true (pick b false rest) → smaller s t r ≡ pick (smaller s t a) true (pick (smaller t s b) false rest)
smaller_splits s t r a b rest e = go (cmp s t) ∙ ap (λ (o : Ordering). pick (smaller s t a) true (pick (or_else o b) false rest)) (sym (cmp_turned s t))
  where
    go : (o : Ordering) → or_else o r ≡ pick (or_else o a) true (pick (or_else (turned o) b) false rest)
    go Less = refl
    go Equal = e
    go Greater = refl

splits : (ask : Ask) (w : List ℕ) (p q : Route) (rest : Bool)
    → ranked_or ask w p q rest ≡ pick (ranked_or ask w p q false) true (pick (ranked_or ask w q p false) false rest)
splits ask w p q rest =
    larger_splits (score_by ask w p) (score_by ask w q) _ _ _ rest
    (larger_splits (length p.strips) (length q.strips) _ _ _ rest
    (larger_splits (length p.prefix_rows) (length q.prefix_rows) _ _ _ rest
    (larger_splits (chars p.stem) (chars q.stem) _ _ _ rest
    (smaller_splits p.stem q.stem _ _ _ rest
    (smaller_splits p.root q.root rest false false rest refl)))))

members_kept : {A : Type 0} (R S : A → A → Type 0) (xs : List A) → ((x y : A) → Memᴰ x xs → Memᴰ y xs → S x y → R x y) → Pairwise S xs → Pairwise R xs
members_kept R S [] h p = tt
members_kept R S (x ∷ xs) h p = (
  (λ y m. h x y (Memᴰ.head refl) (Memᴰ.tail m) (p.0 y m)),
  members_kept R S xs (λ a b m n. h a b (Memᴰ.tail m) (Memᴰ.tail n)) p.1,
)

permuted_member : {A : Type 0} {x : A} {xs ys : List A} → Permuted xs ys → Memᴰ x xs → Memᴰ x ys
permuted_member same m = m
permuted_member (skip y p) (Memᴰ.head e) = Memᴰ.head e
permuted_member (skip y p) (Memᴰ.tail m) = Memᴰ.tail (permuted_member p m)
permuted_member (swap a b) (Memᴰ.head e) = Memᴰ.tail (Memᴰ.head e)
permuted_member (swap a b) (Memᴰ.tail (Memᴰ.head e)) = Memᴰ.head e
permuted_member (swap a b) (Memᴰ.tail (Memᴰ.tail m)) = Memᴰ.tail (Memᴰ.tail m)
permuted_member (then p q) m = permuted_member q (permuted_member p m)

permuted_back : {A : Type 0} {x : A} {xs ys : List A} → Permuted xs ys → Memᴰ x ys → Memᴰ x xs
permuted_back same m = m
permuted_back (skip y p) (Memᴰ.head e) = Memᴰ.head e
permuted_back (skip y p) (Memᴰ.tail m) = Memᴰ.tail (permuted_back p m)
permuted_back (swap a b) (Memᴰ.head e) = Memᴰ.tail (Memᴰ.head e)
permuted_back (swap a b) (Memᴰ.tail (Memᴰ.head e)) = Memᴰ.head e
permuted_back (swap a b) (Memᴰ.tail (Memᴰ.tail m)) = Memᴰ.tail (Memᴰ.tail m)
permuted_back (then p q) m = permuted_back p (permuted_back q m)

earlier_is : (p q : Route) → before p q ≡ earlier p q
earlier_is p q = go (cmp (map place_of p.strips) (map place_of q.strips)) (cmp p.prefix_rows q.prefix_rows)
  where
    go : (x y : Ordering) → is_less (and_then x y) ≡ or_else x (or_else y false)
    go Less y = refl
    go Equal y = sym (last_less y)
    go Greater y = refl

-- the rows, by their paths
pub row_paths : Ask → List ℕ → List Route
row_paths ask w = (path_rank ask w).rows

-- their readings are what the walk gives, put in order
pub rows-given : (ask : Ask) (w : List ℕ) → map (reading_of ask w) (row_paths ask w) ≡ ranked_all w (word_walk ask (chars w) w)
unfolding row_paths
rows-given ask w = path_rows ask w

-- every path is there, and nothing besides
pub row_path : (ask : Ask) (w : List ℕ) (p : Route) → Memᴰ p (row_paths ask w) ↔ PathOf ask w p
unfolding row_paths
row_path ask w p = (
  (λ m. sound ask w p (permuted_member (path_rank ask w).permuted m)),
  (λ a. permuted_back (path_rank ask w).permuted (complete ask w p a)),
)

-- every row comes before all later ones, by document 01's rank
pub rows-ranked : (ask : Ask) (w : List ℕ) → is_utf8 w ≡ true → Pairwise (λ p q. ranked_before ask w p q ≡ true) (row_paths ask w)
unfolding row_paths
rows-ranked ask w u =
    members_kept _ (Kept (reading_of ask w) (λ p q. before p q ≡ true) w) (path_rank ask w).rows
    (λ p q m n k.
    let a : PathOf ask w p = (row_path ask w p).0 m in
    let b : PathOf ask w q = (row_path ask w q).0 n in
    let e : ranked_or ask w q p false ≡ false = stated ask w q p u b a ∙ k.0 in
    splits ask w p q (earlier p q) ∙ ap (λ (x : Bool). pick (ranked_or ask w p q false) true (pick x false (earlier p q))) e
    ∙ either (ranked_or ask w p q false) (earlier p q) (λ f. sym (earlier_is p q) ∙ k.1 (sym (stated ask w p q u a b) ∙ f)))
    (path_rank ask w).kept
  where
    either : (x y : Bool) → (x ≡ false → y ≡ true) → pick x true y ≡ true
    either true y h = refl
    either false y h = h refl

smaller_itself : (s : List ℕ) (rest : Bool) → smaller s s rest ≡ rest
smaller_itself s rest = ap (λ (o : Ordering). or_else o rest) (cmp_refl s)

-- no path comes before itself
ranked_itself : (ask : Ask) (w : List ℕ) (p : Route) → ranked_before ask w p p ≡ false
ranked_itself ask w p =
    larger_same (score_by ask w p) (score_by ask w p) _ refl ∙ larger_same (length p.strips) (length p.strips) _ refl
    ∙ larger_same (length p.prefix_rows) (length p.prefix_rows) _ refl ∙ larger_same (chars p.stem) (chars p.stem) _ refl
    ∙ smaller_itself p.stem _ ∙ smaller_itself p.root _ ∙ smaller_itself (map place_of p.strips) _ ∙ smaller_itself p.prefix_rows false

-- no reading stands there twice
pub rows-once : (ask : Ask) (w : List ℕ) → is_utf8 w ≡ true → Distinct (map parts_of (row_paths ask w))
rows-once ask w u =
    pairwise_map (λ (x y : Parts). x ≡ y → ⊥) (λ p q. ranked_before ask w p q ≡ true) parts_of (row_paths ask w)
    (λ p q m n r e.
    let s : p ≡ q = unique ask w p q ((row_path ask w p).0 m) ((row_path ask w q).0 n) e in
    let z : ranked_before ask w p p ≡ true = ap (λ (x : Route). ranked_before ask w p x) s ∙ r in
    never (sym z ∙ ranked_itself ask w p))
    (rows-ranked ask w u)
  where
    never : true ≡ false → ⊥
    never h = let y : ◌≡◌ {A = ℕ} 0 1 = ap (λ (b : Bool). pick b 0 1) h in absurd (omega arith)
