use Rattle.std.proofs.Common.{ℕ, List, length, sym, subst, ◌∙◌, Some, None}
use Rattle.base64.specs.Decode.{IsWrittenOver}
use Rattle.base64.specs.GeneralPurpose.{decoded_of}
use Rattle.base64.specs.Engines.{standard}
use Rattle.aide_fields.specs.Base64Tables.{IsStandard}
use Rattle.aide_fields.specs.Lent.{IsDecoded}
use Rattle.aide_fields.proofs.DecodeLemmas.{decoded_ok, decoded_err}
use Rattle.aide_fields.proofs.base64_tables.Base64Tables.decode.Goals as goal

pub returns-in-Ok : goal.returns-in-Ok
unfolding IsStandard
returns-in-Ok c =
    let field = c.args.field.now in
    let space = length c.args.buffer.now in
    let ok = sym (c.self.invariant.2 field space) ∙ sym c.in-Ok.ensures.value in
    let written = subst (λ (bytes : List ℕ). IsWrittenOver bytes c.args.buffer.now c.decode_slice.new.output)
    (c.self.invariant.1 field) c.in-Ok.ensures.written in
    subst (λ (size : ℕ). IsDecoded (decoded_of standard field) size (Some c.in-Ok.len) c.decode_slice.new.output) c.told-buffer
    (decoded_ok field c.args.buffer.now c.decode_slice.new.output space c.in-Ok.len ok written)

pub returns-in-Err : goal.returns-in-Err
unfolding IsStandard
returns-in-Err c =
    let field = c.args.field.now in
    let space = length c.args.buffer.now in
    let err = sym (c.self.invariant.2 field space) ∙ sym c.in-Err.ensures.value in
    subst (λ (size : ℕ). IsDecoded (decoded_of standard field) size None c.decode_slice.new.output) c.told-buffer
    (decoded_err field c.decode_slice.new.output space c.in-Err.field-0 err)
