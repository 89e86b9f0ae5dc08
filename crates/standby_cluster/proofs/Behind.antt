-- What a replica receives leaves its log a beginning of its upstream's.
use Rattle.std.proofs.Common.{ℕ, ◌≡◌, ◌++◌, List, sym, ap, ◌∙◌, take, drop, length}
use Rattle.std.proofs.Math.Seq.{drop-append_seam}
use Rattle.std.proofs.lemmas.List.{take-append-drop, append_assoc}
use Rattle.wal_model.specs.declared.entry.Entry.{Entry}
use Rattle.wal_model.specs.Log.{IsPrefixOf, received}
use Rattle.pg_model.specs.declared.answers.Streamed.{Streamed}
use Rattle.pg_model.specs.declared.answers.Streamed.TheVariants as streams
use Rattle.pg_model.specs.Facts.{ServerFacts, entries_of}
use Rattle.pg_model.specs.Replication.{after_streamed, stream_of, streamed}

-- the upstream's log is what was received and the rest behind that
received-whole : (mine theirs : List Entry) (p : IsPrefixOf mine theirs) (count : ℕ)
    → theirs ≡ received mine theirs count ++ drop count p.rest
received-whole mine theirs p count =
    let rest : drop (length mine) theirs ≡ p.rest = ap (drop (length mine)) p.whole ∙ drop-append_seam mine p.rest in
    p.whole
    ∙ ap (λ t. mine ++ t) (sym (take-append-drop count p.rest))
    ∙ sym (append_assoc mine (take count p.rest) (drop count p.rest))
    ∙ ap (λ t. (mine ++ take count t) ++ drop count p.rest) (sym rest)

-- whatever the answer is, a log that was behind still is
answer-behind : (answer : Streamed) (s remote : ServerFacts) → IsPrefixOf (entries_of s.log) (entries_of remote.log)
    → IsPrefixOf (entries_of (after_streamed answer s remote).log) (entries_of remote.log)
answer-behind streams.NotConnected s remote p = p
answer-behind (streams.Diverged at) s remote p = p
answer-behind (streams.Received count) s remote p = record {
  rest = drop count p.rest;
  whole = received-whole (entries_of s.log) (entries_of remote.log) p count;
}

pub pulls-behind : (s remote : ServerFacts) (most : ℕ) → IsPrefixOf (entries_of s.log) (entries_of remote.log)
    → IsPrefixOf (entries_of (streamed s remote most).log) (entries_of remote.log)
pulls-behind s remote most p = answer-behind (stream_of s remote most) s remote p
