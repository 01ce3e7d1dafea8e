-- The findings of the lines passed so far, kept at the front of a list. The proof of `faults::find_in` cites these. Assumes nothing.
use Rattle.std.specs.Prelude.{Some, None}
use Prim.Native.Nat.{ℕ, ◌+◌, ◌≤◌, ◌<◌}
use native.Mathlib.Omega.{arith}
use mathlib.Core.Path.{◌≡◌, sym, ap, ◌∙◌}
use mathlib.Core.List.{List, ◌++◌, append-nil}
use lib.ListN.{length, take, drop, get_or, set, length-set, take-append-drop}
use lib.Seq.{length-take-le}
use Rattle.lookup.proofs.Count.{stored-front, stored-behind}
use Rattle.referred.specs.declared.Fault.{Fault}
use Rattle.referred.specs.declared.Finding.{Finding}
use Rattle.referred.specs.Report.{fault_at, findings_at}
use Rattle.referred.proofs.Found.{found_none, found_some, found_end}

-- of the first i lines, n findings are kept in `out`, which was `old` before
pub record Kept (s starts : List ℕ) (old out : List Finding) (n i : ℕ) : Type 0 where
  pub inside : i ≤ length starts
  pub few : n ≤ i
  pub size : length out ≡ length old
  pub all : findings_at s starts ≡ take n out ++ findings_at s (drop i starts)
  pub rest : drop n out ≡ drop n old

module _ (s starts : List ℕ) (old : List Finding) where
  module _ (out : List Finding) (n i : ℕ) (k : Kept s starts old out n i) where
    pub kept_none : i < length starts → fault_at s (get_or starts i 0) ≡ None → Kept s starts old out n (i + 1)
    kept_none h z =
        record { inside = omega arith; few = omega (arith, k.few); size = k.size; all = k.all ∙ ap (λ (x : List Finding). take n out ++ x) (found_none s starts i h z); rest = k.rest }

    pub kept_some : i < length starts → length starts ≤ length old → (f : Fault) → fault_at s (get_or starts i 0) ≡ Some f
        → Kept s starts old (set out n (record { line = get_or starts i 0; fault = f })) (n + 1) (i + 1)
    kept_some h room f z =
        let c : Finding = record { line = get_or starts i 0; fault = f } in
        let l : n < length out = omega (arith, k.few, k.size) in
        let a : findings_at s starts ≡ take (n + 1) (set out n c) ++ findings_at s (drop (i + 1) starts) =
        k.all ∙ ap (λ (x : List Finding). take n out ++ x) (found_some s starts i h f z) ∙ sym (stored-front out old n c l (findings_at s (drop (i + 1) starts))) in
        record { inside = omega arith; few = omega (arith, k.few); size = simp length-set k.size; all = a; rest = stored-behind out old n c l k.rest }

    -- all lines are passed
    pub kept-all : length starts ≤ i → length starts ≤ length old → (n ≡ length (findings_at s starts)) × (out ≡ findings_at s starts ++ drop n old)
    kept-all h room =
        let a : findings_at s starts ≡ take n out = k.all ∙ ap (λ (x : List Finding). take n out ++ x) (found_end s starts i h) ∙ append-nil (take n out) in
        let l : length (take n out) ≡ n = length-take-le n out (omega (arith, k.few, k.inside, k.size)) in (
          sym l ∙ ap length (sym a),
          sym (take-append-drop n out) ∙ ap (λ (x : List Finding). x ++ drop n out) (sym a) ∙ ap (λ (x : List Finding). findings_at s starts ++ x) k.rest,
        )
