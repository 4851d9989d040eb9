use Rattle.c_memory.proofs.Memories.{read_is_bytes, offset_is_long}
use Rattle.c_memory.proofs.laws.memories_are_of_bytes.Goals as goal

pub returns : goal.returns
returns c = record { read = read_is_bytes; offset = offset_is_long }
