-- A digest whose text in base 64 is known.
use Rattle.std.proofs.Common.{◌≡◌, ℕ, List, Option, Some, None, false}
use Rattle.std.specs.Prelude.{option_map}
use Rattle.base64.specs.Engines.{standard}
use Rattle.base64.specs.GeneralPurpose.{encode_of}
use Rattle.aide_text.specs.ValueText.{digest_text, option_text}

pub written : (digest : Option (List ℕ)) (text : List ℕ) → Some text ≡ option_map (encode_of standard) digest
    → text ≡ option_text (digest_text false) digest
unfolding digest_text
written None text is = cc
written (Some bytes) text is = cc
