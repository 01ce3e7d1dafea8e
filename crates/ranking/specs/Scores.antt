-- How a root with its affixes scores (document 01, "Strips, readings, rank" and "Root candidates"). Assumes nothing.
use Rattle.std.specs.Prelude.{ℕ, ◌+◌, ◌*◌, Bool, ltb}
use Rattle.runs.specs.Runs.{pick}

-- n where b holds, else nothing
abbrev pub points : Bool → ℕ → ℕ
points b n = pick b n 0

-- w 100, h 150, appended form known 60, 20 a prefix, 15 a suffix, 10 if any affix, and the characters of the surface
abbrev pub score_for : Bool → Bool → Bool → ℕ → ℕ → ℕ → ℕ
score_for word head sibling prefixes suffixes surface =
    points word 100 + points head 150 + points sibling 60
    + 20 * prefixes + 15 * suffixes + points (ltb 0 (prefixes + suffixes)) 10 + surface
