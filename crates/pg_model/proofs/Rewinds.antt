-- Rewinds and clones: what they leave.
use Rattle.std.proofs.Common.{◌≡◌, ℕ, ◌-◌, Bool, true, false, min, IsTrue, List, [], length, take, Some, refl, sym, ap, ◌∙◌, arith, append-nil}
use Rattle.std.proofs.Math.Seq.{take-append_seam}
use Rattle.pat_base.specs.ServerState.{writes}
use Rattle.wal_model.specs.declared.entry.Entry.{Entry}
use Rattle.wal_model.specs.Log.{IsPrefixOf, common_of, is_prefix}
use Rattle.wal_model.proofs.Entries.{common-first, common-second, common-longest, is_prefix-from}
use Rattle.pg_model.specs.declared.answers.Streamed.TheVariants as streams
use Rattle.pg_model.specs.Facts.{ServerFacts, entries_of}
use Rattle.pg_model.specs.Replication.{stream_by, stream_of}
use Rattle.pg_model.specs.Rewinding.{common_log, rewound, cloned, rewound_to}

no : false ≡ true → ⊥
no e = cc

take-common : (x y : List Entry) → take (length (common_of x y)) x ≡ common_of x y
take-common x y =
    let front = common-first x y in
    ap (take (length (common_of x y))) front.whole ∙ take-append_seam (common_of x y) front.rest

pub rewound-front : (s source : ServerFacts) → IsPrefixOf (entries_of (rewound s source).log) (entries_of source.log)
rewound-front s source = common-second (entries_of s.log) (entries_of source.log)

pub rewound-keeps : (s source : ServerFacts) (log : List Entry) → IsPrefixOf log (entries_of s.log)
    → IsPrefixOf log (entries_of source.log) → IsPrefixOf log (entries_of (rewound s source).log)
rewound-keeps s source log = common-longest log (entries_of s.log) (entries_of source.log)

pub rewound-lost : (s source : ServerFacts) → IsPrefixOf (entries_of (rewound s source).log) (entries_of s.log)
rewound-lost s source = common-first (entries_of s.log) (entries_of source.log)

pub rewound-told : (s source : ServerFacts) → rewound_to (length (common_log s source)) s source ≡ rewound s source
rewound-told s source =
    ap (λ log. record (rewound s source) { log = Some log }) (take-common (entries_of s.log) (entries_of source.log))

stream-front : (writing : Bool) (mine theirs : List Entry) (most : ℕ) → writing ≡ true → is_prefix mine theirs ≡ true
    → stream_by writing mine theirs most ≡ streams.Received (min most (length theirs - length mine))
stream-front false mine theirs most e front = absurd (no e)
stream-front true mine theirs most e front = rw front refl

pub rewound-streams : (s source : ServerFacts) (most : ℕ) → IsTrue (writes source.state)
    → stream_of (rewound s source) source most
    ≡ streams.Received (min most (length (entries_of source.log) - length (common_log s source)))
rewound-streams s source most writing = stream-front (writes source.state) (common_log s source)
    (entries_of source.log) most writing (is_prefix-from _ _ (rewound-front s source))

nothing-left : (most n : ℕ) → min most (n - n) ≡ 0
nothing-left most n = omega arith

pub cloned-streams : (s source : ServerFacts) (most : ℕ) → IsTrue (writes source.state)
    → stream_of (cloned s source) source most ≡ streams.Received 0
cloned-streams s source most writing =
    let theirs = entries_of source.log in
    stream-front (writes source.state) theirs theirs most writing
    (is_prefix-from theirs theirs (record { rest = []; whole = sym (append-nil theirs) }))
    ∙ ap (λ n. streams.Received n) (nothing-left most (length theirs))
