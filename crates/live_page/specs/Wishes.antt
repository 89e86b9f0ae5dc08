-- What requests want.
use Rattle.std.specs.Prelude.{ℕ, Bool, if◌then◌else◌, List, codes}
use Rattle.std.specs.Str.{bytes_eq}
use Rattle.rest_message.specs.Targets.{path_of}
use Rattle.rest_message.specs.declared.verb.Verb.{Verb}
use Rattle.rest_message.specs.declared.verb.Verb.TheVariants.{Get, Head, Post}
use Rattle.live_page.specs.declared.denial.Denial.TheVariants.{NoSuchPath, OnlySeen, OnlyBrought, OtherSite}
use Rattle.live_page.specs.declared.view.View.TheVariants.{Page, State, Events, Picture}
use Rattle.live_page.specs.declared.wish.Wish.{Wish}
use Rattle.live_page.specs.declared.wish.Wish.TheVariants.{Look, Bring, Denied}
use Rattle.live_page.specs.declared.wish.Place.{Place}
use Rattle.live_page.specs.declared.wish.Place.TheVariants.{Seen, Lines, Nowhere}

-- what stands at a path
abbrev pub place_of : List ℕ → Place
place_of path =
    if bytes_eq path (codes "/") then Seen Page
    else (if bytes_eq path (codes "/state") then Seen State
    else (if bytes_eq path (codes "/events") then Seen Events
    else (if bytes_eq path (codes "/picture.svg") then Seen Picture
    else (if bytes_eq path (codes "/line") then Lines else Nowhere))))

-- what a method wants there, by whether the request is from the port's own page
abbrev pub wish_at : Place → Verb → Bool → Wish
wish_at (Seen view) Get own = Look view
wish_at (Seen view) Head own = Look view
wish_at (Seen view) _ own = Denied OnlySeen
wish_at Lines Post own = if own then Bring else Denied OtherSite
wish_at Lines _ own = Denied OnlyBrought
wish_at Nowhere verb own = Denied NoSuchPath

-- what a request wants
abbrev pub wish_of : Verb → List ℕ → Bool → Wish
wish_of verb target own = wish_at (place_of (path_of target)) verb own
