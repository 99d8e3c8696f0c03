-- The bytes in the room and those that are left are all, and those in the room are plain.
use Rattle.std.proofs.Common.{◌≡◌, ◌≤◌, ◌++◌, length, take, true}
use Rattle.std.specs.List.{list_all}
use Rattle.aide_json.specs.code.Plain.{is_plain}
use Rattle.aide_json.proofs.plain.plain_text.Given as goal

abbrev pub invariant-bytes : goal.invariant-bytes
invariant-bytes g l = record {
  fits : l.len ≤ 128;
  whole : take l.len l.room ++ g.B.Feed.rest l.text ≡ g.B.Feed.rest l.fn.text;
  plain : list_all is_plain (take l.len l.room) ≡ true;
}

abbrev pub decreases-bytes : goal.decreases-bytes
decreases-bytes g l = length (g.B.Feed.rest l.text)
