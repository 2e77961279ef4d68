-- what is written one behind the other is the header
use Rattle.std.proofs.Common.{rules}
use Rattle.layout.specs.Layouts.{embedding_in}
use Rattle.layout.proofs.Laying.{header_written}
use Rattle.layout.proofs.embedding.put_embedded_header.Goals as goal

pub returns : goal.returns
returns c =
    rw (
      c.put_number-5.ensures,
      c.copy_to-2.ensures,
      c.put_number-4.ensures,
      c.put_number-3.ensures,
      c.put_number-2.ensures,
      c.put_number.ensures,
      c.copy_to.ensures,
    ) (header_written c.args.buf.now (embedding_in c.args.e) c.args.end c.requires (search rules))
