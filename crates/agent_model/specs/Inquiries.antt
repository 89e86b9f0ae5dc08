-- What agents ask.
use Rattle.agent_model.specs.declared.inquiry.InquiryKind.{InquiryKind}
use Rattle.agent_model.specs.declared.inquiry.InquiryKind.TheVariants as inquiries
use Rattle.event_book.specs.declared.message.Body.{Body}
use Rattle.event_book.specs.declared.message.Body.TheVariants as bodies

-- what the message says that asks it
abbrev pub body_of : InquiryKind → Body
body_of inquiries.Read = bodies.Read
body_of (inquiries.Request txn) = bodies.Request txn
body_of inquiries.Ask = bodies.Ask
body_of (inquiries.FailsafeRequest ttl) = bodies.FailsafeRequest ttl
