-- What searches by halves say of the lines whose names begin alike, and of the line of a question. The proofs of `edge_of`, `seek` and
-- `seek_in` cite it. Assumes nothing.
use Rattle.std.specs.Prelude.{None, Option, Some}
use Rattle.std.specs.Option.{option_map}
use mathlib.Core.Path.{◌≡◌, refl, sym, ap, subst, ◌∙◌}
use mathlib.Core.List.{List, []}
use Prim.Native.Nat.{ℕ, ◌-◌, ◌≤◌, ◌<◌}
use native.Mathlib.Omega.{arith}
use lib.ListN.{length, take, drop, get_or, length-drop, length-take}
use Rattle.runs.specs.Runs.{cmp}
use Rattle.runs.proofs.Ordered.{Stand, stand}
use Rattle.std.specs.declared.cmp.Ordering.{Ordering}
use Rattle.std.specs.declared.cmp.Ordering.TheVariants.{Less, Equal, Greater}
use Rattle.std.specs.Ordering.{ordering_then}
use Rattle.sheet.specs.Forms.{key}
use Rattle.sheet.specs.Lines.{line_at}
use Rattle.sheet.proofs.Accepted.{GoesUp}
use Rattle.lookup.specs.declared.search.Halved.{Halved}
use Rattle.lookup.specs.Search.{place_in}
use Rattle.lookup.specs.Begins.{headed_at, Edged}
use Rattle.lookup.specs.Halved.{Stopped, Halves}
use Rattle.lookup.proofs.Halves.{place_here, place_left}
use Rattle.lookup.proofs.Rounds.{empty_place}

-- what is said of the line of a number is how it stands
abbrev pub Says : (ℕ → Ordering → Type 0) → ℕ → (ℕ → Ordering) → Type 0
Says stands n f = (i : ℕ) (o : Ordering) → i < n → stands i o → o ≡ f i

-- the line at which a search stopped is one of those left
pub stopped_at : (stands : ℕ → Ordering → Type 0) (first end : ℕ) (r : Halved) (i : ℕ) → Halves stands first end r
    → r.found ≡ Some i → (r.lo ≤ i) × (i < r.hi) × stands i Equal
stopped_at stands first end r i h e = subst (Stopped stands r.lo r.hi) e h.stopped

-- where Equal goes one way no line stands so
none_equal : (o : Ordering) → Equal ≡ ordering_then o Greater → ⊥
none_equal Less e = let z : ◌≡◌ {A = ℕ} 0 1 = cc in omega arith
none_equal Equal e = let z : ◌≡◌ {A = ℕ} 0 1 = cc in omega arith
none_equal Greater e = let z : ◌≡◌ {A = ℕ} 0 1 = cc in omega arith

not_less : (o p : Ordering) → Greater ≡ p → p ≡ ordering_then o Greater → o ≡ Less → ⊥
not_less Less p e f g = let q : Greater ≡ Less = e ∙ f in let z : ◌≡◌ {A = ℕ} 0 1 = cc in omega arith
not_less Equal p e f g = let z : ◌≡◌ {A = ℕ} 0 1 = cc in omega arith
not_less Greater p e f g = let z : ◌≡◌ {A = ℕ} 0 1 = cc in omega arith

is_less_then : (o : Ordering) → Less ≡ ordering_then o Greater → o ≡ Less
is_less_then Less e = refl
is_less_then Equal e = let z : ◌≡◌ {A = ℕ} 0 1 = cc in absurd (omega arith)
is_less_then Greater e = let z : ◌≡◌ {A = ℕ} 0 1 = cc in absurd (omega arith)

two_ways : {P : Type 0} (o p : Ordering) → o ≡ p → o ≡ Less → p ≡ Greater → P
two_ways o p e f g = let q : Less ≡ Greater = sym f ∙ e ∙ g in let z : ◌≡◌ {A = ℕ} 0 1 = cc in absurd (omega arith)

-- the edge of the lines that begin so: no such line was met, or the first is sought before one that was
module _ (s starts : List ℕ) (letter : ℕ) (head : List ℕ) (stands : ℕ → Ordering → Type 0) (r : Halved) (h : Halves stands 0 (length starts) r)
    (says : Says stands (length starts) (headed_at s starts letter head)) where
  at_top : r.hi < length starts → headed_at s starts letter head r.hi ≡ Greater
  at_top p = sym (says r.hi Greater p (h.above p))

  under : 0 < r.lo → r.lo ≤ length starts → headed_at s starts letter head (r.lo - 1) ≡ Less
  under p l = sym (says (r.lo - 1) Less (omega arith) (h.below p))

  pub edged_none : r.found ≡ None → Edged s starts letter head (record { lo = r.hi; top = r.hi })
  edged_none e =
      let z : r.lo ≡ r.hi = subst (Stopped stands r.lo r.hi) e h.stopped in
      record {
        ordered = omega arith;
        inside = h.inside;
        below = λ p. subst (λ (x : ℕ). headed_at s starts letter head (x - 1) ≡ Less) z (under (omega arith) (omega (arith, h.inside)));
        first = λ p f. two_ways _ _ refl f (at_top p);
        above = at_top;
      }

  module _ (one : ℕ) (e : r.found ≡ Some one) (before : ℕ → Ordering → Type 0) (b : Halved) (k : Halves before r.lo one b)
      (tells : Says before (length starts) (λ i. ordering_then (headed_at s starts letter head i) Greater)) where
    within : (r.lo ≤ one) × (one < r.hi) × stands one Equal
    within = stopped_at stands 0 (length starts) r one h e

    met : b.lo ≡ b.hi
    met = by b.found k.stopped
      where
        by : (f : Option ℕ) → Stopped before b.lo b.hi f → b.lo ≡ b.hi
        by None z = z
        by (Some i) z = absurd (none_equal (headed_at s starts letter head i) (tells i Equal (omega (arith, z.1, k.inside, within.1, h.inside)) z.2))

    below : (n : ℕ) → b.lo ≡ n → 0 < n → headed_at s starts letter head (n - 1) ≡ Less
    below n e p = by (stand r.lo n)
      where
        by : Stand r.lo n → headed_at s starts letter head (n - 1) ≡ Less
        by (Stand.below l) =
            is_less_then _ (tells (n - 1) Less (omega (arith, met, k.inside, within.1, h.inside)) (subst (λ (x : ℕ). before (x - 1) Less) e (k.below (omega arith))))
        by (Stand.above l) = absurd (omega (arith, k.ahead))
        by (Stand.alike l) = subst (λ (x : ℕ). headed_at s starts letter head (x - 1) ≡ Less) l (under (omega arith) (omega (arith, within.0, within.1, h.inside)))

    first : (n : ℕ) → b.hi ≡ n → headed_at s starts letter head n ≡ Less → ⊥
    first n e f = by (stand n one)
      where
        by : Stand n one → ⊥
        by (Stand.below l) = not_less _ _ refl (subst (λ (x : ℕ). Greater ≡ ordering_then (headed_at s starts letter head x) Greater) e (tells b.hi Greater (omega (arith, within.1, h.inside)) (k.above (omega arith)))) f
        by (Stand.above l) = absurd (omega (arith, k.inside))
        by (Stand.alike l) =
            let q : Equal ≡ Less = says one Equal (omega (arith, within.1, h.inside)) within.2 ∙ ap (headed_at s starts letter head) (sym l) ∙ f in
            let z : ◌≡◌ {A = ℕ} 0 1 = cc in omega arith

    pub edged_some : Edged s starts letter head (record { lo = b.lo; top = r.hi })
    edged_some = record {
      ordered = omega (arith, met, k.inside, within.1);
      inside = h.inside;
      below = below b.lo refl;
      first = λ p f. first b.lo (sym met) f;
      above = at_top;
    }

-- the line of a question: all lines before number first stand below it, and those from number end on above
module _ (s q starts : List ℕ) (up : GoesUp s [] starts) (first end : ℕ) (stands : ℕ → Ordering → Type 0) (r : Halved) (h : Halves stands first end r)
    (says : (i : ℕ) (o : Ordering) → first ≤ i → i < end → stands i o → o ≡ cmp (key (line_at s (get_or starts i 0))) q)
    (l : end ≤ length starts) (below : 0 < first → cmp (key (line_at s (get_or starts (first - 1) 0))) q ≡ Less)
    (above : end < length starts → cmp (key (line_at s (get_or starts end 0))) q ≡ Greater) where
  pub placed : place_in s starts q ≡ option_map (λ i. get_or starts i 0) r.found
  placed = by r.found h.stopped
    where
      by : (f : Option ℕ) → Stopped stands r.lo r.hi f → place_in s starts q ≡ option_map (λ i. get_or starts i 0) f
      by (Some i) z = place_here s q [] starts i up (omega (arith, z.1, h.inside)) (sym (says i Equal (omega (arith, z.0, h.ahead)) (omega (arith, z.1, h.inside)) z.2))
      by None z =
          place_left s q starts up r.lo r.hi (omega arith) (omega (arith, h.inside)) (λ p. lower (stand first r.lo) p) (λ p. upper (stand r.hi end) p)
          ∙ empty_place s q (drop r.lo (take r.hi starts)) (simp (length-drop, length-take) (omega arith))
        where
          lower : Stand first r.lo → 0 < r.lo → cmp (key (line_at s (get_or starts (r.lo - 1) 0))) q ≡ Less
          lower (Stand.below k) p = sym (says (r.lo - 1) Less (omega arith) (omega (arith, z, h.inside)) (h.below k))
          lower (Stand.above k) p = absurd (omega (arith, h.ahead))
          lower (Stand.alike k) p = subst (λ (x : ℕ). cmp (key (line_at s (get_or starts (x - 1) 0))) q ≡ Less) k (below (omega arith))

          upper : Stand r.hi end → r.hi < length starts → cmp (key (line_at s (get_or starts r.hi 0))) q ≡ Greater
          upper (Stand.below k) p = sym (says r.hi Greater (omega (arith, z, h.ahead)) k (h.above k))
          upper (Stand.above k) p = absurd (omega (arith, h.inside))
          upper (Stand.alike k) p = subst (λ (x : ℕ). cmp (key (line_at s (get_or starts x 0))) q ≡ Greater) (sym k) (above (omega arith))
