-- What lets an example compute on a text with escapes or base64.
unfoldable pub use Rattle.percent_encoding.proofs.OnLiterals.{percent_encoding_on_literals}
unfoldable pub use Rattle.base64.proofs.OnLiterals.{base64_on_literals}
