use Rattle.std.proofs.Common.{◌≡◌, ◌+◌, ◌++◌, take, drop, sym, subst, List, Option}
use Rattle.pat_base.specs.declared.ticks.Ticks.{Ticks}
use Rattle.lease_store.specs.Expiries.{IsExchanged, expiries_without}
use Rattle.lease_store.proofs.Expiring.{Expiries, exchanged, forgotten}
use Rattle.lease_store.proofs.expiries.exchange.Goals as goal

pub returns-in-None-clause-exchanged : goal.returns-in-None-clause-exchanged
returns-in-None-clause-exchanged c =
    subst (λ (e : Option Ticks). IsExchanged c.args.key e c.args.expiries.now.items c.take_out.new.expiries.items)
    (sym c.in-None.is)
    (forgotten c.args.key c.args.expiries.now.items _ c.requires.rise c.requires.once c.take_out.ensures.expiries)

pub returns-in-None-place_of-clause-exchanged : goal.returns-in-None-place_of-clause-exchanged
returns-in-None-place_of-clause-exchanged c =
    let none = subst (λ (t : Expiries). expiries_without c.args.key t ≡ t) c.deref.ensures.value
    c.in-None-place_of.ensures.none in
    subst (λ (e : Option Ticks). IsExchanged c.args.key e c.args.expiries.now.items c.add.new.expiries.items)
    (sym c.in-Some.is)
    (exchanged c.args.key c.in-Some.expiry c.args.expiries.now.items c.args.expiries.now.items _
    c.requires.rise c.requires.once (sym none) c.add.ensures.expiries)

pub returns-in-Some-place_of-clause-exchanged : goal.returns-in-Some-place_of-clause-exchanged
returns-in-Some-place_of-clause-exchanged c =
    let at = c.in-Some-place_of.at in
    let place = subst (λ (t : Expiries). expiries_without c.args.key t ≡ take at t ++ drop (at + 1) t)
    c.deref.ensures.value c.in-Some-place_of.ensures.place in
    subst (λ (e : Option Ticks). IsExchanged c.args.key e c.args.expiries.now.items c.replace.new.expiries.items)
    (sym c.in-Some.is)
    (exchanged c.args.key c.in-Some.expiry c.args.expiries.now.items _ _
    c.requires.rise c.requires.once (sym place) c.replace.ensures.expiries)
