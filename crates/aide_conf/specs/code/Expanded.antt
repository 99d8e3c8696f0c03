-- The result of expanding a text.
use Rattle.std.specs.Prelude.{ℕ, ◌≡◌, ◌<◌, ◌≤◌, true, false, nat_lt, List, Option, Some, None}
use Rattle.std.specs.Prelude.{length, Vec}
use Rattle.aide_conf.specs.declared.expansion.Expanded.{Expanded}
use Rattle.aide_conf.specs.declared.expansion.Expanded.TheVariants.{Skipped, TooLong, Line}
use Rattle.aide_attr.specs.NameMap.{Names}
use Rattle.aide_conf.specs.Cutting.{strip}
use Rattle.aide_conf.specs.Effect.{is_skipped}
use Rattle.aide_conf.specs.code.Replacing.{expansion_after}
use Rattle.aide_conf.specs.code.Variables.{values_of, value_by}
use Rattle.aide_conf.specs.Limits.{longest_line, longest_value}

-- the expansion of a text by the values of variables
abbrev pub expanded_by : {A : Type 0} → Names (Vec ℕ A) → List ℕ → List ℕ
expanded_by variables text = expansion_after (value_by (values_of variables)) 0 text

-- the result for a line whose expansion has these bytes
abbrev pub IsExpandedLine : {A : Type 0} → List ℕ → Expanded A → Type 0
IsExpandedLine out Skipped = is_skipped (strip out) ≡ true
IsExpandedLine out TooLong = (is_skipped (strip out) ≡ false)
    × (nat_lt longest_line (length (strip out)) ≡ true)
IsExpandedLine out (Line bytes) =
    (bytes.items ≡ strip out) × (is_skipped (strip out) ≡ false)
    × (nat_lt longest_line (length (strip out)) ≡ false)

-- the result for a value whose expansion has these bytes, unless they are too many
abbrev pub IsExpandedValue : {A : Type 0} → List ℕ → Option (Vec ℕ A) → Type 0
IsExpandedValue out None = longest_value < length out
IsExpandedValue out (Some bytes) = (bytes.items ≡ out) × (length out ≤ longest_value)
