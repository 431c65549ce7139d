-- What a stored head tells.
use Rattle.hc_record.specs.declared.head.StoredHead.{StoredHead}
use Rattle.hc_record.specs.Head.{Head, opaque_of}

abbrev pub plain : StoredHead → Head
plain head =
    record {
      kind = head.kind;
      total = head.total;
      status = head.status;
      requested = head.requested;
      answered = head.answered;
      joining = opaque_of head.joining;
      vary_fields = head.vary_fields;
      fields = head.fields;
    }
