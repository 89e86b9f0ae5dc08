-- News of one server of a cluster at another.
use Rattle.std.proofs.Common.{◌≡◌, ℕ, ◌-◌, true, List, Option, Some, None, refl, ap, ◌∙◌}
use Rattle.std.specs.Prelude.{slice_get}
use Rattle.pat_base.specs.declared.lsn.Lsn.{Lsn}
use Rattle.pat_base.specs.Changes.{with_changed}
use Rattle.pg_model.specs.declared.answers.Streamed.{Streamed}
use Rattle.pg_model.specs.declared.answers.Streamed.TheVariants as streams
use Rattle.pg_model.specs.Facts.{ServerFacts}
use Rattle.pg_model.specs.Replication.{received_from, news_of, after_streamed}
use Rattle.pg_cluster.specs.Servers.{news_between, news_at, after_streamed_from, after_news_at, streamed_at}

no-some : {X : Type 0} (x : X) → None ≡ Some x → ⊥
no-some x e = cc

-- the servers after news of one at another
pub streamed_at-after_streamed : (servers : List ServerFacts) (place from most : ℕ) (upstream : ServerFacts)
    (news : Streamed) → slice_get servers from ≡ Some upstream → news_at servers place from most ≡ Some news
    → streamed_at servers place from most ≡ with_changed servers place (λ s. after_streamed news s upstream)
streamed_at-after_streamed servers place from most upstream news found e =
    ap (after_news_at servers place from) e ∙ ap (after_streamed_from servers place news) found

pub streamed_at-received : (servers : List ServerFacts) (place from most : ℕ) (upstream : ServerFacts) (count : ℕ)
    → slice_get servers from ≡ Some upstream → news_at servers place from most ≡ Some (streams.Received count)
    → streamed_at servers place from most ≡ with_changed servers place (λ s. received_from count s upstream)
streamed_at-received servers place from most upstream count found e =
    streamed_at-after_streamed servers place from most upstream (streams.Received count) found e

pub streamed_at-diverged : (servers : List ServerFacts) (place from most : ℕ) (upstream : ServerFacts) (at : Lsn)
    → slice_get servers from ≡ Some upstream → news_at servers place from most ≡ Some (streams.Diverged at)
    → streamed_at servers place from most ≡ with_changed servers place (λ s. record s { diverged = true })
streamed_at-diverged servers place from most upstream at found e =
    streamed_at-after_streamed servers place from most upstream (streams.Diverged at) found e

pub streamed_at-none : (servers : List ServerFacts) (place from most : ℕ)
    → news_at servers place from most ≡ None → streamed_at servers place from most ≡ servers
streamed_at-none servers place from most e = ap (after_news_at servers place from) e

-- the two servers of which there are news
pub record Between (servers : List ServerFacts) (place from most : ℕ) (news : Streamed) : Type 0 where
  pub replica : ServerFacts
  pub upstream : ServerFacts
  pub replica_at : slice_get servers place ≡ Some replica
  pub upstream_at : slice_get servers from ≡ Some upstream
  pub news_are : news_of replica upstream most ≡ Some news

between : (most : ℕ) (news : Streamed) (s upstream : Option ServerFacts) (servers : List ServerFacts) (place from : ℕ)
    → slice_get servers place ≡ s → slice_get servers from ≡ upstream
    → news_between s upstream most ≡ Some news → Between servers place from most news
between most news None upstream servers place from p q e = absurd (no-some news e)
between most news (Some s) None servers place from p q e = absurd (no-some news e)
between most news (Some s) (Some upstream) servers place from p q e =
    record { replica = s; upstream = upstream; replica_at = p; upstream_at = q; news_are = e }

-- news come of two servers that are there
pub news_at-between : (servers : List ServerFacts) (place from most : ℕ) (news : Streamed)
    → news_at servers place from most ≡ Some news → Between servers place from most news
news_at-between servers place from most news e =
    between most news (slice_get servers place) (slice_get servers from) servers place from refl refl e
