use Rattle.std.proofs.Common.{[], ◌∷◌, Ok}
use Rattle.dns_fields.specs.declared.Kind.{TheVariants.Bitmap}
use Rattle.dns_names_wire.proofs.FieldWrites.{emits_extend, emits_one, exit_emit, stopped_first}
use Rattle.dns_names_wire.proofs.NamelessWrites.{emits_more, stopped_more}
use Rattle.dns_rdata_policy.specs.CSYNC.{csync_shape, csync_fields, csync_numbers_shape, csync_numbers}
use Rattle.dns_rdata_policy.proofs.csync.CSYNCBinEncodable.emit.Goals as goal

pub returns : goal.returns
returns c =
    let x = c.args.self.now in
    let h = emits_more csync_numbers_shape (Bitmap ∷ []) (csync_numbers x) (x.type_bit_maps, tt) (Ok tt) _ _ _ c.in_ok-emit_numbers.ensures
    (emits_one Bitmap x.type_bit_maps (Ok tt) _ _ c.in_ok-emit.ensures.emits) in
    record { emits = h; extends = emits_extend c.args.encoder.now.mode csync_shape (csync_fields x) (Ok tt) _ _ h }

pub returns-in_err-emit : goal.returns-in_err-emit
returns-in_err-emit c =
    let x = c.args.self.now in
    let h = exit_emit _ _ c.from_residual-in_err-emit.ensures.1 (stopped_more _ csync_numbers_shape (Bitmap ∷ []) (csync_numbers x) (x.type_bit_maps, tt) _ _ _
    c.in_ok-emit_numbers.ensures (stopped_first c.in_err-emit.ensures.emits)) in
    record { emits = h; extends = emits_extend c.args.encoder.now.mode csync_shape (csync_fields x) _ _ _ h }
