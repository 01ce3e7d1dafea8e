-- A report put part by part. The proof of `put_part` cites these. Assumes nothing.
use Prim.Native.Nat.{ℕ, ◌-◌, ◌*◌, ◌≤◌, ◌<◌}
use native.Mathlib.Omega.{arith}
use mathlib.Core.Path.{◌≡◌, sym, ap, ◌∙◌}
use mathlib.Core.List.{List, ◌++◌, append_assoc}
use lib.ListN.{length, take, drop, length-append}
use lib.Seq.{take_at, drop_at}
use Rattle.std.proofs.lemmas.List.Sums.{fold-append}
use Rattle.sheet.specs.Limits.{sheet_limit}
use Rattle.sheet.specs.Walks.{Standing}
use Rattle.sheet.specs.declared.walk.Walk.{Walk}
use Rattle.writing.specs.Placed.{Whole}
use Rattle.writing.specs.Writers.{with_byte, with_text}
use Rattle.writing.specs.declared.Writer.{Writer}
use Rattle.writing.proofs.Puts.{goes}
use Rattle.rescued.specs.declared.walk.Reach.{Reach}
use Rattle.rescued.specs.Stretches.{cut_line, report_over}
use Rattle.rescued.specs.Places.{ahead, Stepped}
use Rattle.rescued.specs.Parts.{Parted}
use Rattle.rescued.proofs.Stretched.{report_turn, cut-size}

-- of a report from the walk v on, what is put up to the walk w, by a writer that was `first`
pub record Part-way (s : List ℕ) (v w : Walk) (first now : Writer) : Type 0 where
  pub inside : w.at ≤ length s
  pub standing : Standing s w.last
  pub onward : v.at ≤ w.at
  pub done : List ℕ
  pub put : now ≡ with_text first done
  pub splits : done ++ report_over (ahead s w) ≡ report_over (ahead s v)
  pub size : now.at ≡ length done
  pub little : length done ≤ 24 * (w.at - v.at)
  pub room : length done ≤ 4096

module _ (s : List ℕ) (v w : Walk) (first now : Writer) (k : Part-way s v w first now) where
  pub way_more : length s ≤ sheet_limit → w.at < length s → now.at ≤ 4072 → (r : Reach) → Stepped s w r → (next : Writer)
      → next ≡ with_text now (cut_line w.at (r.next.at - w.at) r.fault) → Part-way s v r.next first next
  way_more l h few r g next p =
      let cut = cut_line w.at (r.next.at - w.at) r.fault in
      let a = g.further in
      let b = g.inside in
      let n = cut-size w.at (r.next.at - w.at) (omega arith) (omega arith) r.fault in
      let q = length-append k.done cut in
      let e = ap (λ (x : Writer). x.at) p ∙ goes cut now (omega arith) in
      record {
        inside = g.inside;
        standing = g.standing;
        onward = omega (arith, k.onward);
        done = k.done ++ cut;
        put = p ∙ ap (λ (x : Writer). with_text x cut) k.put ∙ sym (fold-append with_byte first k.done cut);
        splits = append_assoc k.done cut (report_over (ahead s r.next)) ∙ ap (λ (x : List ℕ). k.done ++ x) (sym (report_turn s w r g)) ∙ k.splits;
        size = omega (arith, k.size);
        little = omega (arith, k.onward, k.little);
        room = omega (arith, k.size);
      }

  -- there was no room for a line more, or all are put
  pub way_parted : {old out : List ℕ} {n : ℕ} → Whole k.done old out n → (v.at < length s → v.at < w.at) → Parted s v w old out n
  way_parted {old} {out} {n} a g = record {
    size = a.inside;
    rest = ap (drop n) a.contents ∙ drop_at k.done (drop n old) n (sym a.size);
    joined = ap (λ (x : List ℕ). take n x ++ report_over (ahead s w)) a.contents ∙ ap (λ (x : List ℕ). x ++ report_over (ahead s w)) (take_at k.done (drop n old) n (sym a.size)) ∙ k.splits;
    further = g;
  }
