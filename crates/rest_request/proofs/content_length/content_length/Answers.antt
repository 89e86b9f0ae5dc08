use Rattle.std.proofs.Common.{refl, sym, ◌∙◌}
use Rattle.httparse.specs.Spans.{header_bytes}
use Rattle.rest_request.proofs.Lengths.{without-value, first-found, second-found, all-seen, no-header}
use Rattle.rest_request.proofs.content_length.content_length.Goals as goal
use Rattle.rest_request.proofs.content_length.content_length.Goals.{then-gives_length+else-is_some, else-gives_length}

pub returns-then-is_some : goal.returns-then-is_some
returns-then-is_some c =
    sym (second-found (λ x. x.now) c.loop-header.found (header_bytes c.args.bytes.now) c.args.headers.now
    c.loop-header.header-index no-header c.loop-header-test.true (sym c.gives_length.ensures ∙ c.if-gives_length.true)
    (sym c.is_some.ensures ∙ c.if-is_some.true) c.loop-header.invariant.found_is)

pub loop-header-preserved : goal.loop-header-preserved
loop-header-preserved c = record {
  found_is = elim c.if-gives_length.branch [
    | then-gives_length+else-is_some w ↦ rw w.found-is
        (first-found (λ x. x.now) c.loop-header.found (header_bytes c.args.bytes.now) c.args.headers.now
        c.loop-header.header-index no-header _ c.loop-header-test.true
        (sym c.gives_length.ensures ∙ w.if-gives_length.true)
        (sym w.is_some.ensures ∙ w.if-is_some.false) c.loop-header.invariant.found_is w.of.ensures)
    | else-gives_length w ↦ rw w.found-is
        (without-value (header_bytes c.args.bytes.now) c.args.headers.now c.loop-header.header-index no-header _
        c.loop-header-test.true (sym c.gives_length.ensures ∙ w.if-gives_length.false) c.loop-header.invariant.found_is)
  ];
  within = c.loop-header.invariant.within;
}

pub returns-in-None : goal.returns-in-None
returns-in-None c = rw (
  all-seen (λ x. x.now) c.loop-header.found (header_bytes c.args.bytes.now) c.args.headers.now
      c.loop-header.header-index c.loop-header-test.false c.loop-header.invariant.found_is,
  c.in-None.is,
) refl

pub returns-in-Some : goal.returns-in-Some
returns-in-Some c = rw (
  all-seen (λ x. x.now) c.loop-header.found (header_bytes c.args.bytes.now) c.args.headers.now
      c.loop-header.header-index c.loop-header-test.false c.loop-header.invariant.found_is,
  c.in-Some.is,
) c.length_by.ensures
