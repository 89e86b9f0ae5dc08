use Rattle.pg_model.proofs.News.{news-answer, news-after_streamed, no-news}
use Rattle.pg_model.proofs.laws.news_are_streamed.Goals as goal

pub returns-clause-answer : goal.returns-clause-answer
returns-clause-answer c = news-answer

pub returns-clause-told : goal.returns-clause-told
returns-clause-told c = news-after_streamed

pub returns-clause-none : goal.returns-clause-none
returns-clause-none c = no-news
