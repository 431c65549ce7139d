use Rattle.std.{proofs.Common.{◌≡◌, ◌+◌, ◌-◌, ◌≤◌, ◌++◌, length, drop, vec_len, vec_capacity}, specs.VecDeque.{deque_len}}
use Rattle.hc_exch.specs.Pieces.{bytes_of_pieces, first_length}
use Rattle.hc_exch.proofs.held.take_prefix.Given as goal

abbrev pub invariant-loop-bytes : goal.invariant-loop-bytes
invariant-loop-bytes l = record {
  all : l.bytes.items ++ drop l.read (bytes_of_pieces l.pieces.items) ≡ drop l.fn.read (bytes_of_pieces l.fn.pieces.items);
  front : l.read ≤ first_length l.pieces.items;
  few : vec_len l.bytes ≤ l.count;
  there : l.count ≤ length (drop l.fn.read (bytes_of_pieces l.fn.pieces.items));
  room : l.count ≤ vec_capacity l.bytes;
}

abbrev pub decreases-loop-bytes : goal.decreases-loop-bytes
decreases-loop-bytes l = deque_len l.pieces + (l.count - vec_len l.bytes)
