-- What the answer of 13 rounds says of an indexed sheet: the place, the reply, the line that stands there.
-- The proof of `seek` cites it. Assumes nothing.
use Rattle.std.specs.Prelude.{None, Option, Some, IfSome}
use Rattle.std.specs.declared.cmp.Ordering.{Ordering}
use mathlib.Core.Path.{◌≡◌, sym, ap, subst, ◌∙◌}
use mathlib.Core.Bool.{true}
use mathlib.Core.List.{List, []}
use Prim.Native.Nat.{ℕ, ◌<◌, ◌≤◌}
use native.Mathlib.Omega.{arith}
use lib.ListN.{length, drop, get_or}
use Rattle.sheet.specs.Forms.{is_form, key_of}
use Rattle.sheet.specs.Lines.{starts_of}
use Rattle.sheet.specs.Replies.{reply, Indexed}
use Rattle.lookup.specs.declared.search.Halved.{Halved}
use Rattle.lookup.specs.Halved.{Stopped, Halves}
use Rattle.sheet.specs.Limits.{enough_rounds}
use Rattle.lookup.specs.Search.{double, asked, place_in, place_of, answer_at, Placed, Sought}
use Rattle.sheet.proofs.Accepted.{GoesUp, accepted_up, up_form, up_member}
use Rattle.lookup.proofs.Halves.{place_replies, place_asks}
use Rattle.lookup.proofs.Rounds.{enough}
use Rattle.lookup.proofs.Count.{few-lines}

-- the lines of an indexed sheet go up
pub indexed_up : (s starts : List ℕ) → Indexed s starts → GoesUp s [] starts
indexed_up s starts x = subst (λ (l : List ℕ). GoesUp s [] l) (sym x.listed) (accepted_up s x.accepted)

pub indexed_few : (s starts : List ℕ) → Indexed s starts → length starts < double enough_rounds
indexed_few s starts x = rw x.listed (omega (arith, few-lines s x.accepted))

-- a form stands at each stored start
pub indexed-form : (s starts : List ℕ) (i : ℕ) → Indexed s starts → i < length starts → is_form (drop (get_or starts i 0) s) ≡ true
indexed-form s starts i x h =
    let k : i < length (starts_of s) = rw x.listed at h in
    rw x.listed (up_form s [] (starts_of s) i (accepted_up s x.accepted) k)

placed : (s : List ℕ) (letter : ℕ) (name starts : List ℕ) (r : Option ℕ) → Indexed s starts → r ≡ place_of s letter name → Placed s letter name r
unfolding place_of
placed s letter name starts None x e = tt
placed s letter name starts (Some at) x e =
    let a = place_asks s (key_of letter name) (starts_of s) at (sym e) in
    record { line = a.0; form = up_member s [] (starts_of s) at (accepted_up s x.accepted) a.0; asks = a.1 }

pub sought : (s starts : List ℕ) (letter : ℕ) (name : List ℕ) (r : Option ℕ) → Indexed s starts →
    r ≡ asked enough_rounds s starts (key_of letter name) → Sought s letter name r
unfolding place_of reply
sought s starts letter name r x e =
    let c : r ≡ asked enough_rounds s (starts_of s) (key_of letter name) = rw x.listed at e in
    let f : length (starts_of s) < double enough_rounds = omega (arith, few-lines s x.accepted) in
    let p : r ≡ place_of s letter name = c ∙ enough s (key_of letter name) enough_rounds [] (starts_of s) (accepted_up s x.accepted) f in
    record {
      settled = p;
      counted = c;
      answers = ap (answer_at s) p ∙ place_replies s (key_of letter name) (starts_of s);
      placed = placed s letter name starts r x p;
    }

-- the same of the line that all lines give
pub sought_placed : (s starts : List ℕ) (letter : ℕ) (name : List ℕ) (r : Option ℕ) → Indexed s starts →
    r ≡ place_in s starts (key_of letter name) → Sought s letter name r
sought_placed s starts letter name r x e =
    let f : length (starts_of s) < double enough_rounds = omega (arith, few-lines s x.accepted) in
    let l : place_in s starts (key_of letter name) ≡ asked enough_rounds s starts (key_of letter name) =
    subst (λ (p : List ℕ). place_in s p (key_of letter name) ≡ asked enough_rounds s p (key_of letter name)) (sym x.listed)
    (sym (enough s (key_of letter name) enough_rounds [] (starts_of s) (accepted_up s x.accepted) f)) in
    sought s starts letter name r x (e ∙ l)

-- a search among lines stops at one
pub stops_in : (stands : ℕ → Ordering → Type 0) (first end n : ℕ) (r : Halved) → Halves stands first end r → end ≤ n → IfSome r.found (λ i. i < n)
stops_in stands first end n r h l = by r.found h.stopped
  where
    by : (f : Option ℕ) → Stopped stands r.lo r.hi f → IfSome f (λ i. i < n)
    by None s = tt
    by (Some i) s = omega (arith, s.1, h.inside)
