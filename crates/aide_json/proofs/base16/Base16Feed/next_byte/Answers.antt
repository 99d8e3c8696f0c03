use Rattle.std.proofs.Common.{rules}
use Rattle.aide_json.proofs.MemberLemmas.{hex_none, hex_some}
use Rattle.aide_json.proofs.base16.Base16Feed.next_byte.Goals as goal

pub returns-in-None-next_byte : goal.returns-in-None-next_byte
returns-in-None-next_byte g c = search (rules, hex_none)

pub returns-in-Some-next_byte : goal.returns-in-Some-next_byte
returns-in-Some-next_byte g c =
    hex_some c.args.self.now.pending (g.B.Feed.rest c.args.self.now.bytes) (g.B.Feed.rest c.next_byte.new.self) c.in-Some-next_byte.c
    c.hex_digit-in-Some-next_byte.result c.hex_digit.result c.in-None.is c.in-Some-next_byte.ensures c.hex_digit-in-Some-next_byte.ensures
    c.hex_digit.ensures
