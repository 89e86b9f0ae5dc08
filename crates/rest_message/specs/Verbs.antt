-- Methods of requests (RFC 9110, section 9.3, and RFC 5789).
use Rattle.std.specs.Prelude.{ℕ, if◌then◌else◌, List, codes}
use Rattle.std.specs.Str.{bytes_eq}
use Rattle.rest_message.specs.declared.verb.Verb.{Verb}
use Rattle.rest_message.specs.declared.verb.Verb.TheVariants.{Get, Head, Options, Patch, Put, Post, Delete, Other}

-- the verb of a token
abbrev pub verb_of : List ℕ → Verb
verb_of token =
    if bytes_eq token (codes "GET") then Get
    else (if bytes_eq token (codes "HEAD") then Head
    else (if bytes_eq token (codes "OPTIONS") then Options
    else (if bytes_eq token (codes "PATCH") then Patch
    else (if bytes_eq token (codes "PUT") then Put
    else (if bytes_eq token (codes "POST") then Post
    else (if bytes_eq token (codes "DELETE") then Delete else Other))))))
