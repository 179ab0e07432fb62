use Rattle.std.proofs.Common.{◌≡◌, ℕ, List, ◌++◌}
use Rattle.std.specs.{Fmt.HasWritten, Fmt.IsPlainFormatter, Slice.Iter.chunks_rest, Slice.Iter.chunks_size}
use Rattle.hex.specs.Hex.{encode_lower}
use Rattle.dns_rdata_certs.proofs.hexadecimal.HexadecimalDisplay.fmt.Given as goal

abbrev pub invariant-loop-chunk : goal.invariant-loop-chunk
invariant-loop-chunk g l =
    (goal.iterator-loop-chunk g).can_next l.chunk-iterator
    × (goal.iterator-loop-chunk g).is_finite l.chunk-iterator
    × (chunks_size l.chunk-iterator ≡ 32)
    × (IsPlainFormatter l.initial.f → (done : List ℕ) × HasWritten g.W.Write.write_str_gives l.initial.f done l.f
    × (done ++ encode_lower (chunks_rest l.chunk-iterator) ≡ encode_lower l.fn.self.0.now))
