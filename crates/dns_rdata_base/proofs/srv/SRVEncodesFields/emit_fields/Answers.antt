use Rattle.std.proofs.Common.{[], ◌∷◌}
use Rattle.dns_fields.specs.declared.Kind.{TheVariants.Name}
use Rattle.dns_names_wire.proofs.{FieldWrites.exit_emit, FieldWrites.stopped_first, NamelessWrites.stopped_more}
use Rattle.dns_rdata_base.specs.NameRecords.{srv_numbers_shape, srv_numbers}
use Rattle.dns_rdata_base.proofs.srv.SRVEncodesFields.emit_fields.Goals as goal

pub returns-in_err-emit : goal.returns-in_err-emit
returns-in_err-emit c = record {
  emits = exit_emit _ _ c.from_residual-in_err-emit.ensures.1
      (stopped_more _ srv_numbers_shape (Name ∷ []) (srv_numbers c.args.self.now) (c.args.self.now.target, tt) _ _ _ c.in_ok-emit_numbers.ensures
      (stopped_first c.in_err-emit.ensures.emits));
}
